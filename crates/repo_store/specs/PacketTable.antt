-- How packets are kept, each different one once, in slots.
use Rattle.std.specs.Prelude.{ℕ, List, [], map, take, slice_index_or, Option, None, unwrap_or}
use Rattle.std.specs.Int.{w64, from_be_bytes}
use Rattle.sha2.specs.Sha256.{sha256}
use Rattle.repo_plan.specs.declared.part.Part.{Part}

-- The fingerprint of a digest: its first eight octets, as a number.
unfoldable pub fingerprint_of : List ℕ → ℕ
fingerprint_of digest = from_be_bytes w64 (take 8 digest)

-- What is in each slot: a packet's octets, or nothing.
abbrev pub Slots : Type 0
Slots = List (Option (List ℕ))

-- What is in the slot number `slot`. There is nothing in a slot after the last.
abbrev pub at : Slots → ℕ → Option (List ℕ)
at slots slot = slice_index_or slots slot None

-- The octets of the packet in a slot; none where the slot is empty.
abbrev pub octets_at : Slots → ℕ → List ℕ
octets_at slots slot = unwrap_or (at slots slot) []

-- The fingerprint of the digest of the packet in a slot.
abbrev pub fingerprint_at : Slots → ℕ → ℕ
fingerprint_at slots slot = fingerprint_of (sha256 (octets_at slots slot))

-- An entry: a part that is held, and the slot of its packet.
abbrev pub Stored : Type 0
Stored = Part × ℕ

-- The parts that are held, each with its packet.
abbrev pub entries_of : Slots → List Stored → List (Part × List ℕ)
entries_of slots held = map (λ (h : Stored). (h.0, octets_at slots h.1)) held

-- The value of a packet table: its slots, the parts in order with the slots of their packets, and for how many more
-- parts there is capacity.
pub record PacketTableState : Type 0 where
  pub slots : Slots
  pub held : List Stored
  pub spare : ℕ
