-- Indexes of packets: the entries of parts that are held, in order of the packets' names and then of the parts.
use Rattle.std.specs.Prelude.{◌≡◌, ℕ, ◌<◌, Bool, true, false, not, List, [], ◌∷◌, length, drop, slice_get, Option}
use Rattle.std.specs.Prelude.{Some, None}
use Rattle.std.specs.List.{starts_with, filter}
use Rattle.std.specs.Bool.{nat_eq}
use Rattle.std.specs.Ordering.{nat_cmp, ordering_then, eq_by_cmp}
use Rattle.std.specs.Cmp.Lexicographic.{slice_cmp, pointwise}
use Rattle.std.specs.declared.cmp.Ordering.{Ordering}
use Rattle.ndn_name.specs.Names.{Component}
use Rattle.sorted_lists.specs.Members.{In, HaveSame}
use Rattle.sorted_lists.specs.Climbing.{Climbs, IsPlaceOf}
use Rattle.sorted_lists.specs.Least.{Passes, IsFirstThat, lesser_by}
use Rattle.repo_plan.specs.declared.part.Part.{Part}
use Rattle.repo_plan.specs.Parts.{part_cmp}
use Rattle.repo_store.specs.declared.index.Index.{Index}
use Rattle.repo_store.specs.Served.{satisfies}
use Rattle.repo_object.specs.Packets.{packet_name}
use Rattle.repo_store.specs.PacketTable.{Slots, at, octets_at, Stored}

-- ---- orders

-- The name of a packet, as octets; empty where there is no packet.
abbrev pub name_of : Option (List ℕ) → List ℕ
name_of None = []
name_of (Some octets) = packet_name octets

-- The name of the packet that is held for a part, as octets.
abbrev pub name_at : Slots → Stored → List ℕ
name_at slots h = name_of (at slots h.1)

-- What a packet is found by: its name, and its part.
abbrev pub Key : Type 0
Key = List ℕ × Part

-- The order of keys: by the name, as octets, then by the part.
abbrev pub key_cmp : Key → Key → Ordering
key_cmp a b = ordering_then (slice_cmp nat_cmp a.0 b.0) (part_cmp a.1 b.1)

-- The key of an entry: the name of its packet, and its part.
abbrev pub key_in : Slots → Stored → Key
key_in slots h = (name_at slots h, h.0)

-- The entries `held` are in order of their keys.
abbrev pub AreInOrder : Slots → List Stored → Type 0
AreInOrder slots held = Climbs key_cmp (key_in slots) held

-- The entries of an index are in order of their keys.
abbrev pub IndexIsInOrder : Index → Type 0
IndexIsInOrder i = AreInOrder i.kept.now.slots i.held.now

-- ---- searches

-- The first `place` entries of `held`, and no others, come before the key `key`.
abbrev pub IsPlace : Slots → List Stored → Key → ℕ → Type 0
IsPlace slots held key place = IsPlaceOf key_cmp (key_in slots) held key place

-- The least part: no part comes before it.
abbrev pub first_part : Part
first_part = record { publisher = 0; seq = 0; part = 0 }

-- The part of an entry.
abbrev pub held_part : Stored → Part
held_part h = h.0

-- `r` is the entry of `held` that passes `test` and has the least part; `None` where no entry passes.
abbrev pub IsFirstOf : List Stored → (Stored → Bool) → Option Stored → Type 0
IsFirstOf held test r = IsFirstThat part_cmp held_part held test r

-- Of two entries the one with the lesser part, and `a` where the parts are the same; the other one where one is `None`.
abbrev pub lesser : Option Stored → Option Stored → Option Stored
lesser a b = lesser_by part_cmp held_part a b

-- Whether `name` is `asked`, or, with the flag `true`, begins with `asked`.
abbrev pub asks : List ℕ → Bool → List ℕ → Bool
asks asked true name = starts_with nat_eq name asked
asks asked false name = pointwise nat_eq name asked

-- Whether the name of an entry's packet is `asked`, or, with `can_be_prefix`, begins with `asked`.
abbrev pub name_matches : Slots → List ℕ → Bool → Stored → Bool
name_matches slots asked can_be_prefix h = asks asked can_be_prefix (name_at slots h)

-- `found` has the entries of `held` that `name_matches` accepts, and no others, in order of their keys.
pub record AreMatches (slots : Slots) (held : List Stored) (asked : List ℕ) (can_be_prefix : Bool)
    (found : List Stored) : Type 0 where
  pub in_order : AreInOrder slots found
  pub there : (h : Stored) → In h found → Passes held (name_matches slots asked can_be_prefix) h
  pub back : (h : Stored) → Passes held (name_matches slots asked can_be_prefix) h → In h found

-- `new` has the entries of `old` and the entry `h`, and no others.
abbrev pub GainsOne : Stored → List Stored → List Stored → Type 0
GainsOne h old new = HaveSame new (h ∷ old)

-- Whether an entry is of the part `t`.
abbrev pub is_of : Part → Stored → Bool
is_of t h = eq_by_cmp part_cmp t h.0

-- The entries of other parts than `t`.
abbrev pub outside_part : Part → List Stored → List Stored
outside_part t held = filter (λ (h : Stored). not (is_of t h)) held

-- `held` has no entry of the part of `one`, except `one` itself.
abbrev pub IsAlone : Stored → List Stored → Type 0
IsAlone one held = (h : Stored) → In h held → h.0 ≡ one.0 → h ≡ one

-- Whether there is an entry, and it is of the part `t`.
abbrev pub is_one_of : Part → Option Stored → Bool
is_one_of t None = false
is_one_of t (Some h) = is_of t h

-- With `Some`, an entry of the part `t` stands at this place of `held`; with `None`, `held` has no entry of that part.
abbrev pub IsFoundAt : Part → List Stored → Option ℕ → Type 0
IsFoundAt t held None = (h : Stored) → In h held → is_of t h ≡ false
IsFoundAt t held (Some place) = (place < length held) × (is_one_of t (slice_get (drop place held) 0) ≡ true)

-- Whether the packet of an entry satisfies an Interest of the name `name`.
abbrev pub satisfies_held : Slots → List Component → Bool → Stored → Bool
satisfies_held slots name can_be_prefix h = satisfies name can_be_prefix (octets_at slots h.1)
