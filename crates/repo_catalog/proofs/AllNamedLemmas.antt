-- The publications of a name: those in the index and those that wait, sorted, each once.
use Rattle.std.proofs.Common.{◌≡◌, inl, inr, Bool, true, ◌&&◌, List, [], ◌∷◌, ◌++◌, refl, sym, ap}
use Rattle.std.proofs.Common.{Option, ◌==◌, subst, ◌∙◌, find}
use Rattle.std.specs.Prelude.{option_map}
use Rattle.std.specs.Cmp.{IsEquivalence}
use Rattle.std.specs.List.{filter, dedup}
use Rattle.std.specs.List.Retain.{IsFiltered, DiffersFromLast}
use Rattle.std.specs.List.Sorted.{IsPermutation, IsSorted, IsStrictlySortedBy}
use Rattle.std.specs.Ordering.{eq_by_cmp, is_le}
use Rattle.std.proofs.lemmas.Bool.{and_parts}
use Rattle.std.proofs.lemmas.Cmp.{eq_by_cmp_equiv}
use Rattle.std.proofs.lemmas.List.Filters.{dedup_is}
use Rattle.std.proofs.lemmas.List.Kept.{IsStrictlySortedBy-dedup, Contains-dedup, Contains-from_dedup}
use Rattle.ndn_name.specs.Names.{Component}
use Rattle.repo_plan.specs.Parts.{Pair, pair_cmp}
use Rattle.repo_plan.proofs.Changes.{pair_test}
use Rattle.repo_plan.proofs.Orders.{exact_pairs}
use Rattle.sorted_lists.specs.Least.{IsFirstBy}
use Rattle.sorted_lists.specs.Members.{In, HaveSame}
use Rattle.sorted_lists.specs.SortedList.{IsBefore, Rises, contains}
use Rattle.sorted_lists.proofs.Members.{in_filtered, same_is, same_then, same_back, same_permutation}
use Rattle.sorted_lists.proofs.SameSets.{same_sets}
use Rattle.sorted_lists.proofs.Sets.{contains_in, in_contains, eq_same, eq_turned}
use Rattle.sorted_lists.proofs.Sets.{in_append, in_filter, append_left, append_right, in_map, from_map}
use Rattle.repo_catalog.specs.declared.entry.Entry.{Entry}
use Rattle.repo_catalog.specs.Entries.{publication_of, entry_has_name, all_named, IsCatalogue}
use Rattle.repo_catalog.specs.NameKeys.{Key, key_cmp, key_of, has_name, is_sought, IsIndexOf, IsSoughtKey}
use Rattle.repo_catalog.proofs.ManyLemmas.{found_in, entry_is_of, in_contained, contained}
use Rattle.repo_catalog.proofs.NamedLemmas.{is_named_from, from_start}
use Rattle.repo_catalog.proofs.SoughtLemmas.{indexed_of, indexed_first, some_rise, one_first, back, sought_key}
use Rattle.repo_catalog.proofs.SoughtLemmas.{sought_entry, sought_from_start, entry_sought, same_truth}

-- ---- sorted, and each once

-- the test of two publications as the program makes it
abbrev pub same_pair : Pair → Pair → Bool
same_pair a b = a.0 == b.0 && a.1 == b.1

ties : (a b : Pair) → same_pair a b ≡ eq_by_cmp pair_cmp a b
ties a b = pair_test a b ∙ eq_turned exact_pairs b a

tie_equiv : IsEquivalence same_pair
tie_equiv = subst IsEquivalence (λ i a b. sym (ties a b) i) (eq_by_cmp_equiv exact_pairs.total)

strictly_before : (x : Pair) (xs : List Pair) → IsStrictlySortedBy pair_cmp (x ∷ xs) → IsBefore pair_cmp x xs
unfolding IsStrictlySortedBy
strictly_before x [] s = tt
strictly_before x (y ∷ ys) s = (s.0.0, strictly_before x ys (s.0.1, s.1.1))

strictly_rises : (xs : List Pair) → IsStrictlySortedBy pair_cmp xs → Rises pair_cmp xs
unfolding IsStrictlySortedBy
strictly_rises [] s = tt
strictly_rises (x ∷ xs) s = (strictly_before x xs s, strictly_rises xs s.1)

dedup_same : (xs : List Pair) → HaveSame (dedup same_pair xs) xs
dedup_same xs = record {
  there = λ x i. in_contained x xs (Contains-from_dedup same_pair xs x (contained x (dedup same_pair xs) i));
  back = λ x i.
      in_contained x (dedup same_pair xs)
      (Contains-dedup tie_equiv (λ a b t. eq_same exact_pairs a b (sym (ties a b) ∙ t)) xs x (contained x xs i));
}

contained_too : (xs ys : List Pair) → HaveSame xs ys → (q : Pair) → contains pair_cmp xs q ≡ true
    → contains pair_cmp ys q ≡ true
contained_too xs ys s q h = contains_in exact_pairs ys q (s.there q (in_contains exact_pairs xs q h))

same_contains : (xs ys : List Pair) → HaveSame xs ys → (q : Pair) → contains pair_cmp xs q ≡ contains pair_cmp ys q
same_contains xs ys s q =
    same_truth (contains pair_cmp xs q) (contains pair_cmp ys q) (contained_too xs ys s q)
    (contained_too ys xs (same_back s) q)

-- what is sorted and has each once is the set in order that has the same
pub sorted_once : (found sorted once all : List Pair) → IsPermutation found sorted → IsSorted pair_cmp sorted
    → IsFiltered (DiffersFromLast same_pair) [] sorted once → HaveSame found all → Rises pair_cmp all → once ≡ all
sorted_once found sorted once all moved s filtered same rises =
    dedup_is same_pair sorted once filtered
    ∙ same_sets exact_pairs (dedup same_pair sorted) all
    (strictly_rises (dedup same_pair sorted) (IsStrictlySortedBy-dedup exact_pairs.total ties sorted s)) rises
    (same_contains (dedup same_pair sorted) all
    (same_then (dedup_same sorted) (same_then (same_back (same_permutation found sorted moved)) same)))

-- ---- collected from the index and from what waits

all_rise : (name : List Component) (es : List Entry) → IsCatalogue es → Rises pair_cmp (all_named name es)
all_rise name es r = some_rise (entry_has_name name) es r

module _ (name : List Component) (es : List Entry) where
  named_in : (e : Entry) → In e es → entry_has_name name e ≡ true → In (publication_of e) (all_named name es)
  named_in e i n =
      in_map publication_of (filter (entry_has_name name) es) e (in_filter (entry_has_name name) es e i n)

  record HasNamed (p : Pair) : Type 0 where
    e : Entry
    there : In e es
    named : entry_has_name name e ≡ true
    of : p ≡ publication_of e

  in_named : (p : Pair) → In p (all_named name es) → HasNamed p
  in_named p i =
      let e = from_map publication_of (filter (entry_has_name name) es) p i in
      let f = in_filtered (entry_has_name name) es e.0 e.1 in
      record { e = e.0; there = f.0; named = f.1; of = e.2 }

module _ (name : List Component) (es : List Entry) (r : IsCatalogue es) (ks : List Key) (ws : List Pair)
    (i : IsIndexOf es ks ws) where
  abbrev indexed : List Entry
  indexed = indexed_of ks es

  abbrev waits : List Pair
  waits = filter (has_name name es) ws

  abbrev is_indexed : Entry → Bool
  is_indexed e = contains key_cmp ks (key_of e)

  there : (p : Pair) → In p (waits ++ all_named name indexed) → In p (all_named name es)
  there p j = elim (in_append waits (all_named name indexed) p j) [
    | inl w ↦
        let both = in_filtered (has_name name es) ws p w in
        let e = sought_entry name (0, 0) es r p (sought_from_start name es p ∙ both.1) in
        subst (λ (q : Pair). In q (all_named name es)) (sym (entry_is_of p es e.0 e.1.there))
        (named_in name es e.0 (found_in p e.0 es e.1.there).0
        (and_parts (is_le (pair_cmp (0, 0) (publication_of e.0))) _ e.1.passes).1)
    | inr k ↦
        let e = in_named name indexed p k in
        subst (λ (q : Pair). In q (all_named name es)) (sym e.of)
        (named_in name es e.e (in_filtered is_indexed es e.e e.there).0 e.named)
  ]

  is_there : (p : Pair) → In p (all_named name es) → is_sought name (0, 0) es p ≡ true
  is_there p j =
      let e = in_named name es p j in
      subst (λ (q : Pair). is_sought name (0, 0) es q ≡ true) (sym e.of)
      (entry_sought name (0, 0) es r e.e e.there
      (ap (λ (b : Bool). b && entry_has_name name e.e) (from_start (publication_of e.e)) ∙ e.named))

  indexed_back : (p : Pair) → IsSoughtKey name (0, 0) es ks p → In p (all_named name indexed)
  indexed_back p k =
      let e = sought_entry name (0, 0) es r p k.0 in
      subst (λ (q : Pair). In q (all_named name indexed)) (sym (entry_is_of p es e.0 e.1.there))
      (named_in name indexed e.0
      (in_filter is_indexed es e.0 (found_in p e.0 es e.1.there).0
      (ap (contains key_cmp ks) (sought_key name (0, 0) es r p e.0 e.1) ∙ k.1))
      (and_parts (is_le (pair_cmp (0, 0) (publication_of e.0))) _ e.1.passes).1)

  back_again : (p : Pair) → In p (all_named name es) → In p (waits ++ all_named name indexed)
  back_again p j = elim (back name (0, 0) es r ks ws i p (is_there p j)) [
    | inl k ↦ append_right waits (all_named name indexed) p (indexed_back p k)
    | inr w ↦
        append_left waits (all_named name indexed) p
        (in_filter (has_name name es) ws p w.0 (sym (sought_from_start name es p) ∙ w.1))
  ]

  -- those that wait and those in the index, sorted, each once, are all
  pub all_of_both : (found sorted once : List Pair) → found ≡ waits ++ all_named name indexed
      → IsPermutation found sorted → IsSorted pair_cmp sorted → IsFiltered (DiffersFromLast same_pair) [] sorted once
      → once ≡ all_named name es
  all_of_both found sorted once is moved s filtered =
      sorted_once found sorted once (all_named name es) moved s filtered
      (same_then (same_is found (waits ++ all_named name indexed) is) (record { there = there; back = back_again }))
      (all_rise name es r)

-- ---- the index, one by one

-- what is first in the index is found among its entries
pub first_is_found : (name : List Component) (from : Pair) (es : List Entry) (r : IsCatalogue es) (ks : List Key)
    (o : Option Pair) → IsFirstBy pair_cmp (λ p. p) (IsSoughtKey name from es ks) o
    → o ≡ option_map publication_of (find (is_named_from name from) (indexed_of ks es))
first_is_found name from es r ks o f =
    let found = find (is_named_from name from) (indexed_of ks es) in
    one_first (IsSoughtKey name from es ks) o (option_map publication_of found) f
    (indexed_first ks es r name from found refl)
