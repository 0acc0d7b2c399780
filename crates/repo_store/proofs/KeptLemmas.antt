-- How many different packets are kept.
use Rattle.std.proofs.Common.{◌≡◌, ℕ, Bool, ◌||◌, List, [], ◌∷◌, map, length, Option, Some}
use Rattle.std.proofs.Common.{refl, sym, ap, subst, ◌∙◌}
use Rattle.std.specs.Prelude.{IsSome, is_some, unwrap_or}
use Rattle.std.specs.List.{filter, list_any}
use Rattle.std.specs.Ordering.{nat_cmp, eq_by_cmp}
use Rattle.std.specs.Cmp.Lexicographic.{slice_cmp}
use Rattle.std.specs.declared.cmp.Ordering.{Ordering}
use Rattle.sorted_lists.specs.SortedList.{Rises, contains, insert_key, insert_keys}
use Rattle.sorted_lists.specs.Members.{In, HaveSame}
use Rattle.sorted_lists.proofs.Sets.{rises_insert, contains-insert_key, in_map, from_map}
use Rattle.sorted_lists.proofs.Lookups.{set_same, set_length}
use Rattle.sorted_lists.proofs.Filled.{filled, length-filled, in_filled, filled_in, filled_differ}
use Rattle.repo_plan.specs.declared.part.Part.{Part}
use Rattle.repo_store.specs.StoreList.{different_octets}
use Rattle.repo_store.specs.PacketTable.{Slots, at, octets_at, Stored, entries_of}
use Rattle.repo_store.specs.Slots.{IsHeldIn, AreSlots}
use Rattle.repo_store.proofs.IndexLemmas.{exact_octets}
use Rattle.repo_store.proofs.SlotLemmas.{octets_of}

abbrev Octets : Type 0
Octets = List ℕ

abbrev by_octets : Octets → Octets → Ordering
by_octets = slice_cmp nat_cmp

-- ---- the different octets of packets

pub rises_different : (es : List (Part × Octets)) → Rises by_octets (different_octets es)
rises_different [] = tt
rises_different (e ∷ es) = rises_insert exact_octets.total e.1 (different_octets es) (rises_different es)

pub contains_different : (es : List (Part × Octets)) (o : Octets)
    → contains by_octets (different_octets es) o ≡ list_any (λ e. eq_by_cmp by_octets o e.1) es
contains_different [] o = refl
contains_different (e ∷ es) o =
    contains-insert_key exact_octets e.1 (different_octets es) o
    ∙ ap (λ (b : Bool). eq_by_cmp by_octets o e.1 || b) (contains_different es o)

-- they are the set of what the slots of what is held have
different_set : (slots : Slots) (held : List Stored)
    → different_octets (entries_of slots held)
    ≡ insert_keys by_octets (map (λ (h : Stored). octets_at slots h.1) held) []
different_set slots [] = refl
different_set slots (h ∷ held) = ap (insert_key by_octets (octets_at slots h.1)) (different_set slots held)

pub kept_is : (slots : Slots) (held : List Stored) → AreSlots slots held
    → length (filter is_some slots) ≡ length (different_octets (entries_of slots held))
kept_is slots held are =
    sym (length-filled slots)
    ∙ sym (set_length exact_octets (filled slots) (filled_differ exact_octets slots (λ i j o a b.
    are.different i j (subst IsSome (sym a) refl) (a ∙ sym b))))
    ∙ ap length (set_same exact_octets (filled slots) (map own held) same ∙ sym (different_set slots held))
  where
    own : Stored → Octets
    own h = octets_at slots h.1

    same : HaveSame (filled slots) (map own held)
    same = record {
      there = λ o i.
          let place : (j : ℕ) × (at slots j ≡ Some o) = in_filled slots o i in
          let by : IsHeldIn held place.0 = are.used place.0 (subst IsSome (sym place.1) refl) in
          subst (λ (x : Octets). In x (map own held)) (ap (λ (x : Option Octets). unwrap_or x []) place.1)
          (in_map own held (by.by, place.0) by.there);
      back = λ o i.
          let h : (h : Stored) × (In h held) × (o ≡ own h) = from_map own held o i in
          subst (λ (x : Octets). In x (filled slots)) (sym h.2)
          (filled_in slots h.0.1 (own h.0) (octets_of (at slots h.0.1) (are.kept h.0 h.1)));
    }
