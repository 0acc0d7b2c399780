-- How sent packets are stored: each different vector once, and each packet with its vector's number.
use Rattle.std.specs.Prelude.{◌≡◌, ℕ, ◌+◌, ◌<◌, ◌≤◌, Bool, false, List, [], map, length, slice_index_or, Vec}
use Rattle.std.specs.Prelude.{vec_capacity, position, ◌==◌, ◌&&◌}
use Rattle.std.specs.List.{list_any, All}
use Rattle.std.specs.Option.{option_map_or}
use Rattle.std.specs.Str.{bytes_eq}
use Rattle.indexmap.specs.IndexSet.{spare}
use Rattle.bench_net.specs.declared.sent.Packet.{Packet}
use Rattle.bench_net.specs.declared.sent.Sent.TheInside.{Inside}
use Rattle.bench_net.specs.SentList.{SentPacket, sent_packet, was_sent}

-- The vectors as lists of numbers.
abbrev pub lists_of : {A : Type 0} → List (Vec ℕ A) → List (List ℕ)
lists_of vectors = map (λ v. v.items) vectors

-- The packets, each with the vector of its number.
abbrev pub packets_of : List (List ℕ) → List Packet → List SentPacket
packets_of vectors packets =
    map (λ (p : Packet). sent_packet p.sender (slice_index_or vectors p.vector []) p.octets.items) packets

-- Whether `sent_pairs` has the sender with the number that the vector has among `vectors`.
abbrev pub is_sent_pair : ℕ → List ℕ → List (List ℕ) → List (ℕ × ℕ) → Bool
is_sent_pair sender vector vectors sent_pairs =
    option_map_or (λ i. list_any (λ pair. (sender == pair.0) && (i == pair.1)) sent_pairs)
    (position (bytes_eq vector) vectors) false

-- Each pair has the number of a vector, and the pairs say which sender sent which vector, as the packets do.
pub record SentPairs (vectors : List (List ℕ)) (sent_pairs : List (ℕ × ℕ)) (packets : List SentPacket) : Type 0 where
  pub within : All (λ pair. pair.1 < length vectors) sent_pairs
  pub answers : (sender : ℕ) (vector : List ℕ)
      → was_sent sender vector packets ≡ is_sent_pair sender vector vectors sent_pairs

-- There is capacity for `spare` more packets, fewer than 2^32 were sent, each packet's vector is stored, and the pairs
-- are those of the packets.
pub record AreSent (s : Inside) : Type 0 where
  pub room : s.spare + length s.packets.items ≤ vec_capacity s.packets
  pub room_of_vectors : s.spare ≤ spare s.vectors
  pub room_of_pairs : s.spare ≤ spare s.sent_pairs
  pub few : length s.packets.items < 4294967296
  pub within : All (λ (p : Packet). p.vector < length s.vectors.keys) s.packets.items
  pub tells : SentPairs (lists_of s.vectors.keys) s.sent_pairs.keys
      (packets_of (lists_of s.vectors.keys) s.packets.items)
