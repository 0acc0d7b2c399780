-- What stands in lists of places, of which some are empty.
use Rattle.std.proofs.Common.{◌≡◌, ℕ, zero, suc, inl, inr, List, [], ◌∷◌, length, get_or, Option, Some, None, refl, sym}
use Rattle.std.proofs.Common.{ap, arith}
use Rattle.std.specs.Prelude.{is_some}
use Rattle.std.specs.List.{filter}
use Rattle.std.specs.declared.cmp.Ordering.{Ordering}
use Rattle.sorted_lists.specs.Members.{In}
use Rattle.sorted_lists.proofs.Orders.{Exact}
use Rattle.sorted_lists.proofs.Lookups.{AreDifferent}

suc_same : (i j : ℕ) → suc i ≡ suc j → i ≡ j
suc_same i j e = omega arith

module _ {A : Type 0} where
  abbrev pub filled : List (Option A) → List A
  filled [] = []
  filled (None ∷ os) = filled os
  filled (Some x ∷ os) = x ∷ filled os

  pub length-filled : (os : List (Option A)) → length (filled os) ≡ length (filter is_some os)
  length-filled [] = refl
  length-filled (None ∷ os) = length-filled os
  length-filled (Some x ∷ os) = ap suc (length-filled os)

  pub in_filled : (os : List (Option A)) (x : A) → In x (filled os) → (j : ℕ) × (get_or os j None ≡ Some x)
  in_filled [] x i = absurd i
  in_filled (None ∷ os) x i = let r : (j : ℕ) × (get_or os j None ≡ Some x) = in_filled os x i in (suc r.0, r.1)
  in_filled (Some y ∷ os) x (inl e) = (zero, ap (λ (z : A). Some z) (sym e))
  in_filled (Some y ∷ os) x (inr i) =
      let r : (j : ℕ) × (get_or os j None ≡ Some x) = in_filled os x i in (suc r.0, r.1)

  pub filled_in : (os : List (Option A)) (j : ℕ) (x : A) → get_or os j None ≡ Some x → In x (filled os)
  filled_in [] j x e = absurd cc
  filled_in (None ∷ os) zero x e = absurd cc
  filled_in (None ∷ os) (suc j) x e = filled_in os j x e
  filled_in (Some y ∷ os) zero x e = let same : y ≡ x = cc in inl (sym same)
  filled_in (Some y ∷ os) (suc j) x e = inr (filled_in os j x e)

  -- no two places have the same
  abbrev pub AreApart : List (Option A) → Type 0
  AreApart os = (i j : ℕ) (x : A) → get_or os i None ≡ Some x → get_or os j None ≡ Some x → i ≡ j

  rest : (o : Option A) (os : List (Option A)) → AreApart (o ∷ os) → AreApart os
  rest o os apart i j x a b = suc_same i j (apart (suc i) (suc j) x a b)

  pub filled_differ : {R : A → A → Ordering} (e : Exact R) (os : List (Option A)) → AreApart os
      → AreDifferent e (filled os)
  filled_differ e [] apart = tt
  filled_differ e (None ∷ os) apart = filled_differ e os (rest None os apart)
  filled_differ e (Some x ∷ os) apart = (
    λ i.
        let r : (j : ℕ) × (get_or os j None ≡ Some x) = in_filled os x i in
        let clash : zero ≡ suc r.0 = apart zero (suc r.0) x refl r.1 in absurd (omega arith),
    filled_differ e os (rest (Some x) os apart),
  )
