-- What is found by the fingerprint of a digest.
use Rattle.std.proofs.Common.{◌≡◌, ◌≢◌, ℕ, zero, suc, ◌+◌, ◌<◌, ◌≤◌, Bool, true, false, ◌⊎◌, inl, inr, List, [], ◌∷◌}
use Rattle.std.proofs.Common.{length, Option, Some, None, refl, sym, ap, subst, ◌∙◌, arith}
use Rattle.std.specs.Prelude.{IsSome, ◌==◌}
use Rattle.std.specs.Ordering.{nat_cmp, ordering_then, is_le}
use Rattle.std.specs.declared.cmp.Ordering.{Ordering}
use Rattle.std.specs.declared.cmp.Ordering.TheVariants.{Less, Equal, Greater}
use Rattle.std.specs.Cmp.{IsTotalOrder}
use Rattle.std.proofs.lemmas.Bool.{true≢false, cases_lt, and_parts, and_from, eqb-true, eq-eqb}
use Rattle.std.proofs.lemmas.Cmp.{nat_cmp_total, on_total, then_total, tied_itself}
use Rattle.std.proofs.lemmas.Map.Keys.{le_from_is_le}
use Rattle.sorted_lists.specs.SortedList.{Rises, keys, first_from}
use Rattle.sorted_lists.specs.Members.{In}
use Rattle.sorted_lists.specs.Least.{Passes, IsFirstBy}
use Rattle.sorted_lists.proofs.Orders.{Exact, then_equal, nat_same}
use Rattle.sorted_lists.proofs.TwoOrders.{first_le, second_le, then_le, nat_le, less_nat, nat_tied}
use Rattle.sorted_lists.proofs.Sets.{in_map, from_map}
use Rattle.sorted_lists.proofs.RunOrder.{le_itself, lt_not_le, IsFirst, first_is, none_from_on}
use Rattle.sorted_lists.proofs.LeastOnes.{lesser_first, first_same}
use Rattle.repo_plan.specs.Parts.{part_cmp}
use Rattle.repo_plan.proofs.Orders.{exact_parts}
use Rattle.repo_store.specs.declared.packet_table.Fingerprinted.{Fingerprinted}
use Rattle.repo_store.specs.declared.packet_table.Sought.{Sought}
use Rattle.repo_store.specs.PacketTable.{Slots, at, octets_at, fingerprint_at, Stored, PacketTableState}
use Rattle.repo_store.specs.Slots.{AreSlots, fingerprinted_cmp, fingerprinted, AreFingerprints, IsUsed, is_sought}
use Rattle.repo_store.specs.Slots.{is_sought_at, IsNextOf}
use Rattle.repo_store.specs.Indexes.{first_part, held_part, IsFirstOf, lesser}
use Rattle.repo_store.proofs.IndexLemmas.{PartLe, first_part_least}

-- ---- orders of fingerprints

fingerprints_total : IsTotalOrder fingerprinted_cmp
fingerprints_total =
    then_total (on_total (λ (k : Fingerprinted). k.fingerprint) nat_cmp_total)
    (then_total (on_total (λ (k : Fingerprinted). k.slot) nat_cmp_total)
    (on_total (λ (k : Fingerprinted). k.part) exact_parts.total))

pub exact_fingerprints : Exact fingerprinted_cmp
exact_fingerprints = record {
  total = fingerprints_total;
  same = λ a b e.
      let one : (nat_cmp a.fingerprint b.fingerprint ≡ Equal)
      × (ordering_then (nat_cmp a.slot b.slot) (part_cmp a.part b.part) ≡ Equal) =
      then_equal (nat_cmp a.fingerprint b.fingerprint) _ e in
      let two : (nat_cmp a.slot b.slot ≡ Equal) × (part_cmp a.part b.part ≡ Equal) =
      then_equal (nat_cmp a.slot b.slot) _ one.1 in
      let fingerprint : a.fingerprint ≡ b.fingerprint = nat_same a.fingerprint b.fingerprint one.0 in
      let slot : a.slot ≡ b.slot = nat_same a.slot b.slot two.0 in
      let part : a.part ≡ b.part = exact_parts.same a.part b.part two.1 in
      λ i. record { fingerprint = fingerprint i; slot = slot i; part = part i };
  itself = tied_itself fingerprints_total;
}

-- by slot and part
abbrev by_slot : Fingerprinted → Fingerprinted → Ordering
by_slot a b = ordering_then (nat_cmp a.slot b.slot) (part_cmp a.part b.part)

same_fingerprint : (a b : Fingerprinted) → a.fingerprint ≡ b.fingerprint → is_le (fingerprinted_cmp a b) ≡ true
    → is_le (by_slot a b) ≡ true
same_fingerprint a b same h = second_le (nat_cmp a.fingerprint b.fingerprint) (by_slot a b)
    (nat_tied a.fingerprint b.fingerprint same) h

-- of two entries with one fingerprint, the later is in a later slot, or in the same slot and of no lesser part
not_before : (a b : Fingerprinted) → a.fingerprint ≡ b.fingerprint → is_le (fingerprinted_cmp a b) ≡ true
    → (a.slot < b.slot) ⊎ ((a.slot ≡ b.slot) × PartLe a.part b.part)
not_before a b same h = go (nat_cmp a.slot b.slot) refl (same_fingerprint a b same h) where
  go : (o : Ordering) → nat_cmp a.slot b.slot ≡ o → is_le (ordering_then o (part_cmp a.part b.part)) ≡ true
      → (a.slot < b.slot) ⊎ ((a.slot ≡ b.slot) × PartLe a.part b.part)
  go Less e l = inl (less_nat a.slot b.slot e)
  go Equal e l = inr (nat_same a.slot b.slot e, l)
  go Greater e l = absurd (true≢false (sym l))

abbrev start : ℕ → ℕ → Fingerprinted
start fingerprint from = record { fingerprint = fingerprint; slot = from; part = first_part }

-- what stands from the start of a slot on
from_start : (a : Fingerprinted) (fingerprint from : ℕ) → fingerprint ≡ a.fingerprint
    → is_le (fingerprinted_cmp (start fingerprint from) a) ≡ true
    → from ≤ a.slot
from_start a fingerprint from same h =
    le_from_is_le from a.slot
    (first_le (nat_cmp from a.slot) (part_cmp first_part a.part) (same_fingerprint (start fingerprint from) a same h))

not_start : (a : Fingerprinted) (fingerprint from : ℕ) → fingerprint ≡ a.fingerprint → from ≤ a.slot
    → fingerprinted_cmp a (start fingerprint from) ≢ Less
not_start a fingerprint from same low less =
    lt_not_le exact_fingerprints a (start fingerprint from) less
    (then_le (nat_cmp fingerprint a.fingerprint) (by_slot (start fingerprint from) a)
    (nat_le fingerprint a.fingerprint (omega (arith, same)))
    (then_le (nat_cmp from a.slot) (part_cmp first_part a.part) (nat_le from a.slot low) (first_part_least a.part)))

-- what stands between the start of a fingerprint and one of that fingerprint is of that fingerprint
fingerprint_between : (x own : Fingerprinted) (fingerprint from : ℕ) → own.fingerprint ≡ fingerprint
    → is_le (fingerprinted_cmp (start fingerprint from) x) ≡ true → is_le (fingerprinted_cmp x own) ≡ true
    → x.fingerprint ≡ fingerprint
fingerprint_between x own fingerprint from same low high =
    let above : fingerprint ≤ x.fingerprint = le_from_is_le fingerprint x.fingerprint
    (first_le (nat_cmp fingerprint x.fingerprint) _ low) in
    let below : x.fingerprint ≤ own.fingerprint = le_from_is_le x.fingerprint own.fingerprint
    (first_le (nat_cmp x.fingerprint own.fingerprint) _ high) in
    omega (arith, above, below, same)

-- ---- what is found by a fingerprint

module _ (fs : List (Fingerprinted × Unit {0})) (rises : Rises fingerprinted_cmp (keys fs)) (fingerprint from : ℕ) where
  pub next_none : first_from fingerprinted_cmp (start fingerprint from) fs ≡ None
      → IsNextOf (keys fs) fingerprint from None
  next_none none k i own low =
      let e = from_map (λ (x : Fingerprinted × Unit {0}). x.0) fs k i in
      not_start k fingerprint from (sym own) low
      (ap (λ (x : Fingerprinted). fingerprinted_cmp x (start fingerprint from)) e.2
      ∙ none_from_on exact_fingerprints (start fingerprint from) fs none e.0 e.1)

  module _ (x : Fingerprinted × Unit {0}) (is : first_from fingerprinted_cmp (start fingerprint from) fs ≡ Some x) where
    found : IsFirst exact_fingerprints (start fingerprint from) fs x
    found = first_is exact_fingerprints (start fingerprint from) fs rises x is

    after : (k : Fingerprinted) → In k (keys fs) → k.fingerprint ≡ fingerprint → from ≤ k.slot
        → is_le (fingerprinted_cmp x.0 k) ≡ true
    after k i own low =
        let e = from_map (λ (y : Fingerprinted × Unit {0}). y.0) fs k i in
        subst (λ (y : Fingerprinted). is_le (fingerprinted_cmp x.0 y) ≡ true) (sym e.2) (elim (found.others e.0 e.1) [
          | inl less ↦
              absurd (not_start k fingerprint from (sym own) low
              (ap (λ (y : Fingerprinted). fingerprinted_cmp y (start fingerprint from)) e.2 ∙ less))
          | inr le ↦ le
        ])

    pub next_some : x.0.fingerprint ≡ fingerprint → IsNextOf (keys fs) fingerprint from (Some (x.0.part, x.0.slot))
    next_some same = (
      subst (λ (f : ℕ). In (record { fingerprint = f; slot = x.0.slot; part = x.0.part }) (keys fs)) same
          (in_map (λ (y : Fingerprinted × Unit {0}). y.0) fs x found.is_in),
      from_start x.0 fingerprint from (sym same) found.above,
      λ k i own low. not_before x.0 k (same ∙ sym own) (after k i own low),
    )

    pub next_other : x.0.fingerprint ≢ fingerprint → IsNextOf (keys fs) fingerprint from None
    next_other other k i own low = other (fingerprint_between x.0 k fingerprint from own found.above
        (after k i own low))

-- whether a slot is used, by what is next from it on
pub used_next : (fingerprints : List Fingerprinted) (fingerprint slot : ℕ) (next : Stored)
    → IsNextOf fingerprints fingerprint slot (Some next)
    → IsUsed fingerprints fingerprint slot (next.1 == slot)
used_next fingerprints fingerprint slot next is = go (next.1 == slot) refl where
  go : (b : Bool) → (next.1 == slot) ≡ b → IsUsed fingerprints fingerprint slot b
  go true e = (
    next.0,
    subst (λ (s : ℕ). In (record { fingerprint = fingerprint; slot = s; part = next.0 }) fingerprints)
        (eqb-true next.1 slot e)
        is.0,
  )
  go false e = λ t i. elim (is.2 (record { fingerprint = fingerprint; slot = slot; part = t }) i refl (omega arith)) [
    | inl less ↦ absurd (omega (arith, less, is.1))
    | inr at ↦ true≢false (sym (eq-eqb next.1 slot at.0) ∙ e)
  ]

pub used_none : (fingerprints : List Fingerprinted) (fingerprint slot : ℕ) → IsNextOf fingerprints fingerprint slot None
    → IsUsed fingerprints fingerprint slot false
used_none fingerprints fingerprint slot none t i = none (record { fingerprint = fingerprint; slot = slot; part = t }) i
    refl (omega arith)

-- what is found by a fingerprint is held
pub fingerprint_only : (slots : Slots) (held : List Stored) (fs : List Fingerprinted) (k : Fingerprinted)
    → AreFingerprints slots held fs
    → In k fs → In (k.part, k.slot) held × (k.fingerprint ≡ fingerprint_at slots k.slot)
fingerprint_only slots held fs k are i =
    let e = from_map (fingerprinted slots) held k (are.there k i) in
    subst (λ (x : Fingerprinted). In (x.part, x.slot) held × (x.fingerprint ≡ fingerprint_at slots x.slot)) (sym e.2)
    (e.1, refl)

pub some_within : (slots : Slots) (s : ℕ) → IsSome (at slots s) → s < length slots
some_within [] s h = absurd (true≢false (sym h))
some_within (o ∷ slots) zero h = omega arith
some_within (o ∷ slots) (suc s) h = let less = some_within slots s h in omega arith

-- what passes in the slots before one
abbrev pub Searched : PacketTableState → (Stored → Bool) → ℕ → Option Stored → Type 0
Searched k test from least = IsFirstBy part_cmp held_part (λ h. Passes k.held test h × (h.1 < from)) least

module _ (k : PacketTableState) (fingerprint : ℕ) (sought : Sought) where
  abbrev pub test : Stored → Bool
  test h = is_sought_at k.slots fingerprint sought h

  abbrev Found : Stored → Type 0
  Found h = Passes k.held test h

  of_fingerprint : (h : Stored) → test h ≡ true
      → (fingerprint_at k.slots h.1 ≡ fingerprint) × (is_sought sought (octets_at k.slots h.1) ≡ true)
  of_fingerprint h e =
      let both = and_parts (fingerprint_at k.slots h.1 == fingerprint) (is_sought sought (octets_at k.slots h.1)) e in
      (eqb-true (fingerprint_at k.slots h.1) fingerprint both.0, both.1)

  pub searched_none : Searched k test 0 None
  searched_none h found = omega (arith, found.1)

  -- the search is at its end where nothing that passes is in a slot from here on
  searched_end : (from : ℕ) (least : Option Stored) → Searched k test from least → ((h : Stored) → Found h → h.1 < from)
      → IsFirstOf k.held test least
  searched_end from least s below =
      first_same exact_parts held_part (λ h. Found h × (h.1 < from)) Found (λ h f. f.0) (λ h f. (f, below h f)) least s

  pub searched_all : (from : ℕ) (least : Option Stored) → AreSlots k.slots k.held → length k.slots ≤ from
      → Searched k test from least → IsFirstOf k.held test least
  searched_all from least slots whole s = searched_end from least s (λ h f.
      let within = some_within k.slots h.1 (slots.kept h f.0) in omega (arith, within, whole))

  module _ (fs : List Fingerprinted) (fingerprints : AreFingerprints k.slots k.held fs) (from : ℕ) where
    in_fingerprints : (h : Stored) → In h k.held → In (fingerprinted k.slots h) fs
    in_fingerprints h i = fingerprints.back (fingerprinted k.slots h) (in_map (fingerprinted k.slots) k.held h i)

    pub searched_past : (least : Option Stored) → Searched k test from least → IsNextOf fs fingerprint from None
        → IsFirstOf k.held test least
    searched_past least s none = searched_end from least s (λ h f. elim (cases_lt h.1 from) [
      | inl low ↦ low
      | inr high ↦
          absurd (none (fingerprinted k.slots h) (in_fingerprints h f.0) (of_fingerprint h f.1).0 (omega (arith, high)))
    ])

    module _ (next : Stored) (is : IsNextOf fs fingerprint from (Some next)) where
      -- what passes in the slots up to the next one is before that, or in it
      up_to_next : (h : Stored) → Found h → h.1 < next.1 + 1
          → (h.1 < from) ⊎ ((h.1 ≡ next.1) × PartLe next.0 h.0)
      up_to_next h f low = elim (cases_lt h.1 from) [
        | inl less ↦ inl less
        | inr more ↦ elim (is.2 (fingerprinted k.slots h) (in_fingerprints h f.0) (of_fingerprint h f.1).0
            (omega (arith, more))) [
              | inl past ↦ absurd (omega (arith, past, low))
              | inr at ↦ inr (sym at.0, at.1)
            ]
      ]

      pub searched_other : (least : Option Stored) → is_sought sought (octets_at k.slots next.1) ≡ false
          → Searched k test from least → Searched k test (next.1 + 1) least
      searched_other least fails s =
          first_same exact_parts held_part (λ h. Found h × (h.1 < from)) (λ h. Found h × (h.1 < next.1 + 1))
          (λ h f. (f.0, omega (arith, f.1, is.1)))
          (λ h f. (
            f.0,
            elim (up_to_next h f.0 f.1) [
              | inl less ↦ less
              | inr at ↦ absurd (true≢false (sym (of_fingerprint h f.0.1).1
                  ∙ ap (λ (s : ℕ). is_sought sought (octets_at k.slots s)) at.0
                  ∙ fails))
            ],
          )) least s

      pub searched_this : (least : Option Stored) → is_sought sought (octets_at k.slots next.1) ≡ true
          → Searched k test from least → Searched k test (next.1 + 1) (lesser least (Some next))
      searched_this least passes s =
          first_same exact_parts held_part (λ h. (Found h × (h.1 < from)) ⊎ In_next h)
          (λ h. Found h × (h.1 < next.1 + 1))
          (λ h f. elim f [
            | inl low ↦ (low.0, omega (arith, low.1, is.1))
            | inr at ↦ (at.0, omega (arith, at.1.0))
          ])
          (λ h f. elim (up_to_next h f.0 f.1) [ inl less ↦ inl (f.0, less) | inr at ↦ inr (f.0, at) ])
          (lesser least (Some next))
          (lesser_first exact_parts held_part (λ h. Found h × (h.1 < from)) In_next least (Some next) s (record {
            there = (
              (
                there.0,
                and_from (fingerprint_at k.slots next.1 == fingerprint) _
                    (eq-eqb (fingerprint_at k.slots next.1) fingerprint (sym there.1)) passes,
              ),
              (refl, le_itself exact_parts next.0),
            );
            least = λ o f. f.1.1;
          }))
        where
          there : In next k.held × (fingerprint ≡ fingerprint_at k.slots next.1)
          there =
              fingerprint_only k.slots k.held fs (record { fingerprint = fingerprint; slot = next.1; part = next.0 })
              fingerprints is.0

          In_next : Stored → Type 0
          In_next h = Found h × ((h.1 ≡ next.1) × PartLe next.0 h.0)
