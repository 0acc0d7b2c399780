-- Two sets in order that have the same are the same.
use Rattle.std.proofs.Common.{◌≡◌, ◌⊎◌, inl, inr, Bool, true, false, ◌||◌, List, [], ◌∷◌, refl, sym, ◌∙◌, subst}
use Rattle.std.proofs.lemmas.Bool.{true≢false, false_from_ne_true}
use Rattle.std.specs.Ordering.{eq_by_cmp}
use Rattle.std.specs.declared.cmp.Ordering.{Ordering}
use Rattle.std.specs.declared.cmp.Ordering.TheVariants.{Less}
use Rattle.sorted_lists.specs.SortedList.{IsBefore, Rises, contains}
use Rattle.sorted_lists.proofs.Orders.{Exact}
use Rattle.sorted_lists.proofs.Sets.{In, in_contains, contains_in, each_before, eq_same}
use Rattle.sorted_lists.proofs.RunOrder.{lt_irrefl, lt_trans}

module _ {K : Type 0} {R : K → K → Ordering} (e : Exact R) where
  pub head_least : (x : K) (xs : List K) (y : K) → Rises R (x ∷ xs) → contains R (x ∷ xs) y ≡ true
      → (x ≡ y) ⊎ (R x y ≡ Less)
  head_least x xs y r h = go (in_contains e (x ∷ xs) y h) where
    go : In y (x ∷ xs) → (x ≡ y) ⊎ (R x y ≡ Less)
    go (inl s) = inl (sym s)
    go (inr i) = inr (each_before e.total x xs r.0 y i)

  has_head : (x : K) (xs : List K) → contains R (x ∷ xs) x ≡ true
  has_head x xs = contains_in e (x ∷ xs) x (inl refl)

  pub not_after : (x : K) (xs : List K) → IsBefore R x xs → contains R xs x ≡ false
  not_after x xs b =
      false_from_ne_true (contains R xs x) (λ h. lt_irrefl e x (each_before e.total x xs b x (in_contains e xs x h)))

  same_tail : (x : K) (xs ys : List K) → Rises R (x ∷ xs) → Rises R (x ∷ ys)
      → ((q : K) → contains R (x ∷ xs) q ≡ contains R (x ∷ ys) q) → (q : K) → contains R xs q ≡ contains R ys q
  same_tail x xs ys r s h q = go (eq_by_cmp R q x) refl (h q) where
    go : (b : Bool) → eq_by_cmp R q x ≡ b → (b || contains R xs q) ≡ (b || contains R ys q)
        → contains R xs q ≡ contains R ys q
    go true p g =
        let same : q ≡ x = eq_same e q x p in
        subst (λ (z : K). contains R xs z ≡ contains R ys z) (sym same)
        (not_after x xs r.0 ∙ sym (not_after x ys s.0))
    go false p g = g

  pub same_sets : (xs ys : List K) → Rises R xs → Rises R ys → ((q : K) → contains R xs q ≡ contains R ys q) → xs ≡ ys
  same_sets [] [] r s h = refl
  same_sets [] (y ∷ ys) r s h = absurd (true≢false (sym (has_head y ys) ∙ sym (h y)))
  same_sets (x ∷ xs) [] r s h = absurd (true≢false (sym (has_head x xs) ∙ h x))
  same_sets (x ∷ xs) (y ∷ ys) r s h =
      go (λ (z : x ≡ y). same_sets xs ys r.1 s.1
      (same_tail x xs ys r (subst (λ (w : K). Rises R (w ∷ ys)) (sym z) s)
      (subst (λ (w : K). (q : K) → contains R (x ∷ xs) q ≡ contains R (w ∷ ys) q) (sym z) h)))
      (head_least x xs y r (h y ∙ has_head y ys)) (head_least y ys x s (sym (h x) ∙ has_head x xs)) where
        go : (x ≡ y → xs ≡ ys) → (x ≡ y) ⊎ (R x y ≡ Less) → (y ≡ x) ⊎ (R y x ≡ Less) → (x ∷ xs) ≡ (y ∷ ys)
        go f (inl z) b = λ i. z i ∷ f z i
        go f (inr z) (inl w) = λ i. sym w i ∷ f (sym w) i
        go f (inr z) (inr w) = absurd (lt_irrefl e x (lt_trans e x y x z w))
