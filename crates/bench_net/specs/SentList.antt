-- The packets that were sent in a group, as a list in the order of sending. They are numbered from 1.
use Rattle.std.specs.Prelude.{ℕ, ◌-◌, Bool, List, Option, None, ◌==◌, ◌&&◌, if◌then◌else◌, slice_get}
use Rattle.std.specs.List.{list_any}
use Rattle.std.specs.Option.{option_map}
use Rattle.std.specs.Str.{bytes_eq}

-- Who sent a packet, which vector it reports, and its octets.
pub record SentPacket : Type 0 where
  pub sender : ℕ
  pub vector : List ℕ
  pub octets : List ℕ

-- A packet with its sender, its vector and its octets.
abbrev pub sent_packet : ℕ → List ℕ → List ℕ → SentPacket
sent_packet sender vector octets =
    record { sender = sender; vector = vector; octets = octets }

-- What was sent, and for how many more packets there is capacity.
pub record SentList : Type 0 where
  pub packets : List SentPacket
  pub spare : ℕ

-- The octets of the packet of number `k`, if there is one.
abbrev pub sent_octets : List SentPacket → ℕ → Option (List ℕ)
sent_octets packets k =
    if k == 0 then None else option_map (λ (p : SentPacket). p.octets) (slice_get packets (k - 1))

-- The vector that the packet of number `k` reports, if there is one.
abbrev pub sent_vector : List SentPacket → ℕ → Option (List ℕ)
sent_vector packets k =
    if k == 0 then None else option_map (λ (p : SentPacket). p.vector) (slice_get packets (k - 1))

-- The sender of the packet of number `k`, if there is one.
abbrev pub sent_sender : List SentPacket → ℕ → Option ℕ
sent_sender packets k =
    if k == 0 then None else option_map (λ (p : SentPacket). p.sender) (slice_get packets (k - 1))

-- The sender sent a packet that reports this vector.
abbrev pub was_sent : ℕ → List ℕ → List SentPacket → Bool
was_sent sender vector packets =
    list_any (λ (p : SentPacket). (sender == p.sender) && bytes_eq vector p.vector) packets
