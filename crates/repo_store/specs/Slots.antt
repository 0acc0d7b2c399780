-- Which slots packets are kept in.
use Rattle.std.specs.Prelude.{◌≡◌, ℕ, ◌-◌, ◌<◌, ◌≤◌, Bool, true, false, ◌&&◌, not, ◌⊎◌, List, ◌++◌, map, Option, Some}
use Rattle.std.specs.Prelude.{None, IsSome}
use Rattle.std.specs.Prelude.{◌==◌}
use Rattle.std.specs.List.{filter}
use Rattle.std.specs.Bool.{nat_eq}
use Rattle.std.specs.Ordering.{nat_cmp, ordering_then, is_le}
use Rattle.std.specs.Cmp.Lexicographic.{pointwise}
use Rattle.std.specs.declared.cmp.Ordering.{Ordering}
use Rattle.slab.specs.Slab.{Slab, get, HasRoomFor, Updates}
use Rattle.sha2.specs.Sha256.{sha256}
use Rattle.ndn_tlv.specs.Spelling.{element}
use Rattle.repo_plan.specs.declared.part.Part.{Part}
use Rattle.sorted_lists.specs.SortedList.{Rises, keys, contains, with_value}
use Rattle.sorted_lists.specs.Members.{In, HaveSame}
use Rattle.repo_plan.specs.Parts.{Pair, part_cmp}
use Rattle.repo_plan.specs.Plan.{is_in}
use Rattle.repo_store.specs.declared.packet_table.Fingerprinted.{Fingerprinted}
use Rattle.repo_store.specs.declared.packet_table.Sought.{Sought}
use Rattle.repo_store.specs.declared.packet_table.Sought.TheVariants.{Octets, FullName}
use Rattle.repo_store.specs.declared.packet_table.PacketTable.TheInside.{Inside}
use Rattle.repo_store.specs.StoreList.{is_in_any}
use Rattle.repo_object.specs.Packets.{IsPacket, packet_name}
use Rattle.repo_store.specs.PacketTable.{Slots, at, octets_at, fingerprint_at, Stored, PacketTableState}

-- ---- slots

-- Some part is held whose packet is in the slot `slot`.
pub record IsHeldIn (held : List Stored) (slot : ℕ) : Type 0 where
  pub by : Part
  pub there : In (by, slot) held

-- Each held part has a packet in its slot. What is in a slot is a Data packet, and belongs to a held part. No two slots
-- have the same octets.
pub record AreSlots (slots : Slots) (held : List Stored) : Type 0 where
  pub kept : (h : Stored) → In h held → IsSome (at slots h.1)
  pub named : (slot : ℕ) (octets : List ℕ) → at slots slot ≡ Some octets → IsPacket octets
  pub used : (slot : ℕ) → IsSome (at slots slot) → IsHeldIn held slot
  pub different : (a b : ℕ) → IsSome (at slots a) → at slots a ≡ at slots b → a ≡ b

-- The slot `slot` has `octets` in `new`. If a slot had them in `old`, it was this one. The other slots are unchanged.
pub record KeepsOne (octets : List ℕ) (old new : Slots) (slot : ℕ) : Type 0 where
  pub there : at new slot ≡ Some octets
  pub others : (s : ℕ) → IsSome (at old s) → at new s ≡ at old s
  pub only : (s : ℕ) → IsSome (at new s) → (s ≡ slot) ⊎ IsSome (at old s)
  pub once : (s : ℕ) → at old s ≡ Some octets → s ≡ slot

-- ---- fingerprints

-- The order of entries with fingerprints: by fingerprint, then by slot, then by part.
abbrev pub fingerprinted_cmp : Fingerprinted → Fingerprinted → Ordering
fingerprinted_cmp a b =
    ordering_then (nat_cmp a.fingerprint b.fingerprint) (ordering_then (nat_cmp a.slot b.slot) (part_cmp a.part b.part))

-- An entry, with the fingerprint of its packet's digest.
abbrev pub fingerprinted : Slots → Stored → Fingerprinted
fingerprinted slots h = record { fingerprint = fingerprint_at slots h.1; slot = h.1; part = h.0 }

-- `fingerprints` has the entries of `held`, each with the fingerprint of its packet's digest, and no others.
abbrev pub AreFingerprints : Slots → List Stored → List Fingerprinted → Type 0
AreFingerprints slots held fingerprints = HaveSame fingerprints (map (fingerprinted slots) held)

-- The entry with this fingerprint, in slot `from` or a later one, that has the lowest slot and then the lowest part;
-- `None` if there is none.
abbrev pub IsNextOf : List Fingerprinted → ℕ → ℕ → Option Stored → Type 0
IsNextOf fingerprints fingerprint from None = (k : Fingerprinted) → In k fingerprints → k.fingerprint ≡ fingerprint
    → from ≤ k.slot → ⊥
IsNextOf fingerprints fingerprint from (Some next) =
    In (record { fingerprint = fingerprint; slot = next.1; part = next.0 }) fingerprints × (from ≤ next.1)
    × ((k : Fingerprinted) → In k fingerprints → k.fingerprint ≡ fingerprint → from ≤ k.slot
    → (next.1 < k.slot) ⊎ ((next.1 ≡ k.slot) × (is_le (part_cmp next.0 k.part) ≡ true)))

-- Whether `fingerprints` has an entry with this fingerprint and this slot.
abbrev pub IsUsed : List Fingerprinted → ℕ → ℕ → Bool → Type 0
IsUsed fingerprints fingerprint slot true = (t : Part)
    × In (record { fingerprint = fingerprint; slot = slot; part = t }) fingerprints
IsUsed fingerprints fingerprint slot false = (t : Part)
    → In (record { fingerprint = fingerprint; slot = slot; part = t }) fingerprints → ⊥

-- ---- what is sought

-- Whether there is a packet, and `asked` is its full name, as octets: its name, and a component with its digest.
abbrev pub is_full_name : List ℕ → Option (List ℕ) → Bool
is_full_name asked None = false
is_full_name asked (Some octets) = pointwise nat_eq asked (packet_name octets ++ element 1 (sha256 octets))

-- Whether `asked` is the full name of an entry's packet, as octets.
abbrev pub has_full_name : Slots → List ℕ → Stored → Bool
has_full_name slots asked h = is_full_name asked (at slots h.1)

-- Whether `octets` are the octets that are sought, or have the digest and the name that are sought.
abbrev pub is_sought : Sought → List ℕ → Bool
is_sought (Octets sought) octets = pointwise nat_eq octets sought.now
is_sought (FullName digest name) octets =
    pointwise nat_eq (sha256 octets) digest.now && pointwise nat_eq (packet_name octets) name.now

-- Whether an entry's packet is sought, and the fingerprint of its digest is `fingerprint`.
abbrev pub is_sought_at : Slots → ℕ → Sought → Stored → Bool
is_sought_at slots fingerprint sought h = fingerprint_at slots h.1 == fingerprint
    && is_sought sought (octets_at slots h.1)

-- ---- what is put

-- The held parts are in order, and each has a Data packet in its slot.
pub record HeldIsSound (k : PacketTableState) : Type 0 where
  pub rises : Rises part_cmp (keys k.held)
  pub kept : (h : Stored) → In h k.held → IsSome (at k.slots h.1)
  pub packets : (h : Stored) → In h k.held → IsPacket (octets_at k.slots h.1)

-- If an entry was found, `slot` is its slot, and the slab is unchanged; otherwise `octets` are put into an empty slot.
abbrev pub IsStoredIn : Option Stored → List ℕ → Slab (List ℕ) → Slab (List ℕ) → ℕ → Type 0
IsStoredIn None octets old new slot = (get old slot ≡ None) × Updates old new slot (Some octets)
IsStoredIn (Some h) octets old new slot = (slot ≡ h.1) × (new ≡ old)

-- The packet is put under its part, which had none before, in a new slot or in the one that has the same octets
-- already.
pub record IsPut (part : Part) (octets : List ℕ) (slot : ℕ) (old new : PacketTableState) : Type 0 where
  pub fresh : contains part_cmp (keys old.held) part ≡ false
  pub held : new.held ≡ with_value part_cmp part slot old.held
  pub keeps : KeepsOne octets old.slots new.slots slot
  pub sound : HeldIsSound old
  pub spare : new.spare ≡ old.spare - 1

-- ---- what is dropped

-- The entries of other publications than `pair`.
abbrev pub held_outside : Pair → List Stored → List Stored
held_outside pair held = filter (λ (h : Stored). not (is_in pair h.0)) held

-- The entries of publications that `pairs` doesn't list.
abbrev pub held_outside_all : List Pair → List Stored → List Stored
held_outside_all pairs held = filter (λ (h : Stored). not (is_in_any pairs h.0)) held

-- The held parts of the publication `pair` have numbers below 4, which is `FEW` in the code: so few are searched one by
-- one when they are dropped. The bound matters for speed alone.
abbrev pub HasFew : Pair → List Stored → Type 0
HasFew pair held = (h : Stored) → In h held → is_in pair h.0 ≡ true → h.0.part < 4

-- Each entry that `new` holds has the same packet as its slot had in `old`.
abbrev pub PacketsStay : PacketTableState → PacketTableState → Type 0
PacketsStay old new = (h : Stored) → In h new.held → at new.slots h.1 ≡ at old.slots h.1

-- ---- the invariant

-- The invariant of the packet table's fields.
pub record TableIsSound (k : Inside) : Type 0 where
  pub in_order : Rises part_cmp (keys k.parts.entries)
  pub fingerprints_in_order : Rises fingerprinted_cmp (keys k.fingerprints.entries)
  pub slots : AreSlots k.packets.slots k.parts.entries
  pub fingerprints : AreFingerprints k.packets.slots k.parts.entries (keys k.fingerprints.entries)
  pub room_of_packets : HasRoomFor k.packets k.spare
  pub room_of_parts : k.spare ≤ k.parts.spare
  pub room_of_fingerprints : k.spare ≤ k.fingerprints.spare
