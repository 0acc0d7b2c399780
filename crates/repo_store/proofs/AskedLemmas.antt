-- What is asked for stands side by side in an index.
use Rattle.std.proofs.Common.{◌≡◌, ℕ, ◌<◌, ◌≤◌, Bool, true, false, ◌⊎◌, inl, inr, List, [], ◌∷◌, ◌++◌, length}
use Rattle.std.proofs.Common.{get_or, take, drop, Option, refl, sym, ap, subst, ◌∙◌, arith}
use Rattle.std.specs.Prelude.{slice_get}
use Rattle.std.specs.Bool.{nat_eq}
use Rattle.std.specs.List.{starts_with}
use Rattle.std.specs.List.Sorted.{IsPartitionedBy, IsPartitionPoint}
use Rattle.std.specs.Ordering.{nat_cmp, ordering_then, is_le}
use Rattle.std.specs.Cmp.{unsigned_Decides}
use Rattle.std.specs.Cmp.Lexicographic.{slice_cmp}
use Rattle.std.specs.declared.cmp.Ordering.{Ordering}
use Rattle.std.specs.declared.cmp.Ordering.TheVariants.{Less, Equal, Greater}
use Rattle.std.proofs.lemmas.Bool.{true≢false, cases_lt}
use Rattle.std.proofs.lemmas.Cmp.{nat_cmp_total}
use Rattle.std.proofs.lemmas.List.{take-append-drop}
use Rattle.std.proofs.lemmas.Slice.Eq.{slice_eq-Decides, starts_is}
use Rattle.sorted_lists.specs.Members.{In}
use Rattle.sorted_lists.specs.Least.{Passes}
use Rattle.sorted_lists.proofs.Orders.{less_back, nat_same, nat_itself}
use Rattle.sorted_lists.proofs.Sets.{in_append, append_left, append_right}
use Rattle.sorted_lists.proofs.RunOrder.{le_itself, lt_not_le}
use Rattle.sorted_lists.proofs.Members.{in_prefix, in_back, in_at}
use Rattle.sorted_lists.proofs.Climbs.{climbs_parts, pairs_climb}
use Rattle.sorted_lists.proofs.LeastOnes.{le_both, first_same}
use Rattle.repo_plan.proofs.Orders.{exact_parts}
use Rattle.repo_store.specs.PacketTable.{Slots, Stored}
use Rattle.repo_store.specs.Indexes.{name_at, key_in, AreInOrder, asks, name_matches, held_part, AreMatches}
use Rattle.repo_store.specs.Indexes.{IsFirstOf}
use Rattle.repo_store.proofs.IndexLemmas.{exact_octets, exact_keys, NameLe, PartLe, names_le, parts_le, IsFrom}

-- ---- octets in order

-- octets that are neither before a prefix nor after octets that begin with it begin with it too
between : (prefix a rest : List ℕ) → NameLe prefix a → NameLe a (prefix ++ rest) → (more : List ℕ)
    × (a ≡ prefix ++ more)
between [] a rest low high = (a, refl)
between (x ∷ prefix) [] rest low high = absurd (true≢false (sym low))
between (x ∷ prefix) (y ∷ a) rest low high = go (nat_cmp x y) refl low (between prefix a rest) where
  go : (o : Ordering) → nat_cmp x y ≡ o → is_le (ordering_then o (slice_cmp nat_cmp prefix a)) ≡ true
      → (NameLe prefix a → NameLe a (prefix ++ rest) → (more : List ℕ) × (a ≡ prefix ++ more))
      → (more : List ℕ) × ((y ∷ a) ≡ x ∷ (prefix ++ more))
  go Less e l inner =
      let after = slice_cmp nat_cmp a (prefix ++ rest) in
      absurd (true≢false (sym high
      ∙ ap (λ (o : Ordering). is_le (ordering_then o after)) (less_back nat_cmp_total x y e)))
  go Equal e l inner =
      let same : x ≡ y = nat_same x y e in
      let tied : nat_cmp y x ≡ Equal = ap (nat_cmp y) same ∙ nat_itself y in
      let after = slice_cmp nat_cmp a (prefix ++ rest) in
      let more : (more : List ℕ) × (a ≡ prefix ++ more) =
      inner l (ap (λ (o : Ordering). is_le (ordering_then o after)) (sym tied) ∙ high) in
      (more.0, ap (λ (n : List ℕ). y ∷ n) more.1 ∙ ap (λ (z : ℕ). z ∷ (prefix ++ more.0)) (sym same))
  go Greater e l inner = absurd (true≢false (sym l))

-- octets that begin with a prefix are not before it
prefix_before : (prefix rest : List ℕ) → NameLe prefix (prefix ++ rest)
prefix_before [] [] = refl
prefix_before [] (x ∷ rest) = refl
prefix_before (x ∷ prefix) rest =
    ap (λ (o : Ordering). is_le (ordering_then o (slice_cmp nat_cmp prefix (prefix ++ rest)))) (nat_itself x)
    ∙ prefix_before prefix rest

begins_is : (prefix name : List ℕ)
    → (starts_with nat_eq name prefix ≡ true → name ≡ prefix ++ drop (length prefix) name)
    × ((rest : List ℕ) → name ≡ prefix ++ rest → starts_with nat_eq name prefix ≡ true)
begins_is prefix name = starts_is unsigned_Decides name prefix _ refl

is_name : (asked name : List ℕ) → (asks asked false name ≡ true → name ≡ asked)
    × (name ≡ asked → asks asked false name ≡ true)
is_name asked name = slice_eq-Decides unsigned_Decides name asked _ refl

-- names that are asked for are not before what is asked for
asked_from : (asked : List ℕ) (p : Bool) (name : List ℕ) → asks asked p name ≡ true → NameLe asked name
asked_from asked true name h =
    subst (NameLe asked) (sym ((begins_is asked name).0 h)) (prefix_before asked (drop (length asked) name))
asked_from asked false name h = subst (NameLe asked) (sym ((is_name asked name).0 h)) (le_itself exact_octets asked)

-- and stand side by side
asked_between : (asked : List ℕ) (p : Bool) (a b : List ℕ) → NameLe asked a → NameLe a b → asks asked p b ≡ true
    → asks asked p a ≡ true
asked_between asked true a b low high h =
    let more = between asked a (drop (length asked) b) low (subst (NameLe a) ((begins_is asked b).0 h) high) in
    (begins_is asked a).1 more.0 more.1
asked_between asked false a b low high h =
    (is_name asked a).1 (le_both exact_octets a asked (subst (NameLe a) ((is_name asked b).0 h) high) low)

-- ---- in an index

module _ (slots : Slots) (held : List Stored) (asked : List ℕ) (p : Bool) where
  abbrev pub test : Stored → Bool
  test h = name_matches slots asked p h

  -- of what is held from a name on, what is asked for comes first
  module _ (rest : List Stored) (from : IsFrom slots held asked rest) where
    names_climb : (i j : ℕ) (d : Stored) → i < j → j < length rest
        → NameLe (name_at slots (get_or rest i d)) (name_at slots (get_or rest j d))
    names_climb i j d l m =
        names_le (key_in slots (get_or rest i d)) (key_in slots (get_or rest j d))
        (pairs_climb exact_keys (key_in slots) rest from.in_order i j d l m)

    low_at : (i : ℕ) (d : Stored) → i < length rest → NameLe asked (name_at slots (get_or rest i d))
    low_at i d l = from.after (get_or rest i d) (in_at rest i d l)

    pub asked_parted : IsPartitionedBy test rest
    asked_parted i j d l m passes = elim (cases_lt i j) [
      | inl less ↦
          asked_between asked p (name_at slots (get_or rest i d)) (name_at slots (get_or rest j d))
          (low_at i d (omega arith)) (names_climb i j d less m) passes
      | inr more ↦ let same : j ≡ i = omega arith in subst (λ (k : ℕ). test (get_or rest k d) ≡ true) same passes
    ]

    module _ (end : ℕ) (within : end ≤ length rest)
        (point : IsPartitionPoint (λ h. test h ≡ true) (λ h. test h ≡ false) rest end) where
      -- what stands in front of what is held from the name on is not asked for, and what stands after the end neither
      within_end : (h : Stored) → Passes held test h → In h (take end rest)
      within_end h i = elim (in_append from.prefix rest h (subst (In h) (sym from.whole) i.0)) [
        | inl before ↦
            absurd (lt_not_le exact_octets (name_at slots h) asked (from.before h before)
            (asked_from asked p (name_at slots h) i.1))
        | inr later ↦
            elim (in_append (take end rest) (drop end rest) h (subst (In h) (sym (take-append-drop end rest)) later)) [
              | inl there ↦ there
              | inr after ↦ absurd (true≢false (sym i.1 ∙ in_back (λ x. test x ≡ false) rest end point.1 h after))
            ]
      ]

      pub asked_found : AreMatches slots held asked p (take end rest)
      asked_found = record {
        in_order = (climbs_parts exact_keys (key_in slots) end rest from.in_order).0;
        there = λ h i. (
          subst (In h) from.whole (append_right from.prefix rest h
              (subst (In h) (take-append-drop end rest) (append_left (take end rest) (drop end rest) h i))),
          in_prefix (λ x. test x ≡ true) rest end within point.0 h i,
        );
        back = within_end;
      }

  -- ---- of the least part

  module _ (found : List Stored) (are : AreMatches slots held asked p found) where
    pub least_asked : (r : Option Stored) → IsFirstOf found (λ h. true) r → IsFirstOf held test r
    least_asked r first =
        first_same exact_parts held_part (Passes found (λ h. true)) (Passes held test) (λ h i. are.there h i.0)
        (λ h i. (are.back h i, refl)) r first

    -- of one name the first is
    pub first_asked : p ≡ false → IsFirstOf held test (slice_get found 0)
    first_asked exact = least_asked (slice_get found 0) (go found are.in_order own) where
      own : (o : Stored) → In o found → name_at slots o ≡ asked
      own o i =
          (is_name asked (name_at slots o)).0
          (subst (λ (b : Bool). asks asked b (name_at slots o) ≡ true) exact (are.there o i).1)

      go : (xs : List Stored) → AreInOrder slots xs → ((o : Stored) → In o xs → name_at slots o ≡ asked)
          → IsFirstOf xs (λ h. true) (slice_get xs 0)
      go [] climbs same = λ h i. i.0
      go (x ∷ xs) climbs same = record {
        there = (inl refl, refl);
        least = λ o i. elim (let j : (o ≡ x) ⊎ In o xs = i.0 in j) [
          | inl e ↦ subst (λ (h : Stored). PartLe x.0 h.0) (sym e) (le_itself exact_parts x.0)
          | inr j ↦
              parts_le (key_in slots x) (key_in slots o) (same x (inl refl) ∙ sym (same o (inr j))) (climbs.0 o j)
        ];
      }
