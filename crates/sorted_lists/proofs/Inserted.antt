-- Sets in order that gain several keys in one pass, the least first.
use Rattle.std.proofs.Common.{◌≡◌, inl, inr, ℕ, List, [], ◌∷◌, ◌++◌, take, drop, Ok, Err, sym, ap}
use Rattle.std.proofs.Common.{subst, ◌∙◌, append_assoc}
use Rattle.std.specs.declared.cmp.Ordering.{Ordering}
use Rattle.std.specs.declared.cmp.Ordering.TheVariants.{Less, Greater}
use Rattle.std.proofs.lemmas.List.{take-append-drop}
use Rattle.sorted_lists.specs.SortedList.{Rises, insert_keys}
use Rattle.sorted_lists.specs.Members.{In, HaveSame}
use Rattle.sorted_lists.proofs.Orders.{Exact, greater_back}
use Rattle.sorted_lists.proofs.Sets.{before_each, each_before, rises_append, rises_insert_keys, in_append, append_left}
use Rattle.sorted_lists.proofs.Sets.{append_right}
use Rattle.sorted_lists.proofs.Search.{Found}
use Rattle.sorted_lists.proofs.Search.Found.{at_key, at_gap}
use Rattle.sorted_lists.proofs.RunOrder.{Lt, Le, lt_le, le_itself, le_lt_trans}
use Rattle.sorted_lists.proofs.Members.{in_at, in_prefix, in_back, same_itself, same_is, same_back, same_then}
use Rattle.sorted_lists.proofs.Members.{same_append, same_more, same_middle, same_swap}
use Rattle.sorted_lists.proofs.Lookups.{one_set, insert_there, same_insert_keys}

module _ {K : Type 0} {R : K → K → Ordering} (e : Exact R) where
  rises_both : (xs ys : List K) → Rises R (xs ++ ys) → Rises R xs × Rises R ys
  rises_both [] ys r = (tt, r)
  rises_both (x ∷ xs) ys r =
      let rest : Rises R xs × Rises R ys = rises_both xs ys r.1 in (
        (
          before_each e.total x xs (λ y i. each_before e.total x (xs ++ ys) r.0 y (append_left xs ys y i)),
          rest.0,
        ),
        rest.1,
      )

  pub rises_parts : (n : ℕ) (xs : List K) → Rises R xs → Rises R (take n xs) × Rises R (drop n xs)
  rises_parts n xs r = rises_both (take n xs) (drop n xs) (subst (Rises R) (sym (take-append-drop n xs)) r)

  -- a key that is there makes no difference
  pub keys_there : (k : K) (ks xs : List K) (i : ℕ) → Rises R xs → Found R (λ x. x) xs k (Ok i)
      → insert_keys R (k ∷ ks) xs ≡ insert_keys R ks xs
  keys_there k ks xs i r (at_key j l h) =
      let there : In k xs = subst (λ (x : K). In x xs) (e.same _ k (h k)) (in_at xs j k l) in
      insert_there e k (insert_keys R ks xs) (rises_insert_keys e ks xs r)
      ((same_insert_keys e ks xs).back k (append_right ks xs k there))

  -- one that is new stands after those that are less, and the others come after it
  pub keys_between : (k : K) (ks xs : List K) (i : ℕ) → Rises R xs → Rises R (k ∷ ks) → Found R (λ x. x) xs k (Err i)
      → insert_keys R (k ∷ ks) xs ≡ (take i xs ++ k ∷ []) ++ insert_keys R ks (drop i xs)
  keys_between k ks xs i r s (at_gap j l below above) =
      one_set e (insert_keys R (k ∷ ks) xs) ((prefix ++ k ∷ []) ++ insert_keys R ks back)
      (rises_insert_keys e (k ∷ ks) xs r)
      (rises_append e.total (prefix ++ k ∷ []) (insert_keys R ks back)
      (rises_append e.total prefix (k ∷ []) parts.0 (tt, tt) (λ x y m n.
      subst (λ (z : K). Lt e x z) (sym (only y n)) (less x m)))
      (rises_insert_keys e ks back parts.1) (λ x y m n. le_lt_trans e x k y (up_to x m) (after y n)))
      (same_then (same_insert_keys e (k ∷ ks) xs)
      (same_then (same_more k moved)
      (same_then (same_back (same_middle prefix k (ks ++ back)))
      (same_then (same_is (prefix ++ k ∷ (ks ++ back)) ((prefix ++ k ∷ []) ++ (ks ++ back))
      (sym (append_assoc prefix (k ∷ []) (ks ++ back))))
      (same_append (same_itself (prefix ++ k ∷ [])) (same_back (same_insert_keys e ks back)))))))
    where
      prefix : List K
      prefix = take j xs

      back : List K
      back = drop j xs

      parts : Rises R prefix × Rises R back
      parts = rises_parts j xs r

      less : (x : K) → In x prefix → Lt e x k
      less x m = in_prefix (λ y. R y k ≡ Less) xs j l below x m

      only : (y : K) → In y (k ∷ []) → y ≡ k
      only y n = elim n [ inl own ↦ own | inr none ↦ absurd none ]

      up_to : (x : K) → In x (prefix ++ k ∷ []) → Le e x k
      up_to x m = elim (in_append prefix (k ∷ []) x m) [
        | inl n ↦ lt_le e x k (less x n)
        | inr n ↦ subst (λ (z : K). Le e z k) (sym (only x n)) (le_itself e k)
      ]

      after : (y : K) → In y (insert_keys R ks back) → Lt e k y
      after y n = elim (in_append ks back y ((same_insert_keys e ks back).there y n)) [
        | inl m ↦ each_before e.total k ks s.0 y m
        | inr m ↦ greater_back e.total y k (in_back (λ z. R z k ≡ Greater) xs j above y m)
      ]

      moved : HaveSame (ks ++ xs) (prefix ++ (ks ++ back))
      moved =
          same_then (same_is (ks ++ xs) ((ks ++ prefix) ++ back)
          (ap (λ (zs : List K). ks ++ zs) (sym (take-append-drop j xs)) ∙ sym (append_assoc ks prefix back)))
          (same_then (same_append (same_swap ks prefix) (same_itself back))
          (same_is ((prefix ++ ks) ++ back) (prefix ++ (ks ++ back)) (append_assoc prefix ks back)))
