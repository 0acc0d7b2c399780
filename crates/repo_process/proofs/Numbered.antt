-- The values of a list under numbers from a first number on, as a map.
use Rattle.std.proofs.Common.{◌≡◌, ℕ, zero, suc, ◌+◌, ◌<◌, List, [], ◌∷◌, ◌++◌, length, slice_get, None, refl, ap, ◌∙◌}
use Rattle.std.proofs.Common.{arith}
use Rattle.std.specs.Prelude.{slice_set}
use Rattle.std.specs.Option.{option_map}
use Rattle.std.specs.Ordering.{nat_cmp}
use Rattle.std.specs.declared.cmp.Ordering.{Ordering}
use Rattle.sorted_lists.specs.SortedList.{by_order, keys, IsBefore, Rises, value_of, with_value}
use Rattle.sorted_lists.proofs.Orders.{nat_less, nat_itself}
use Rattle.repo_process.specs.Fields.{numbered_from}
use Rattle.repo_process.proofs.Numbers.{nat_greater, same_key, key_below, key_above, here, next}

module _ {A : Type 0} where
  pub value_of-below : (n first : ℕ) (xs : List A) → n < first → value_of nat_cmp (numbered_from first xs) n ≡ None
  value_of-below n first [] below = refl
  value_of-below n first (x ∷ xs) below = rw (key_below n first below) (value_of-below n (first + 1) xs (omega arith))

  pub value_of-numbered : (first i : ℕ) (xs : List A)
      → value_of nat_cmp (numbered_from first xs) (first + i) ≡ slice_get xs i
  value_of-numbered first i [] = refl
  value_of-numbered first zero (x ∷ xs) = rw (here first, same_key first) refl
  value_of-numbered first (suc i) (x ∷ xs) =
      rw (key_above (first + suc i) first (omega arith), next first i) (value_of-numbered (first + 1) i xs)

  -- a key after the first
  pub later : (k first : ℕ) (y x : A) (rest : List (ℕ × A)) → first < k
      → with_value nat_cmp k y ((first, x) ∷ rest) ≡ (first, x) ∷ with_value nat_cmp k y rest
  later k first y x rest more =
      ap (λ (o : Ordering).
      by_order o ((k, y) ∷ (first, x) ∷ rest) ((k, y) ∷ rest) ((first, x) ∷ with_value nat_cmp k y rest))
      (nat_greater k first more)

  pub with_value-numbered : (first i : ℕ) (y : A) (xs : List A) → i < length xs
      → with_value nat_cmp (first + i) y (numbered_from first xs) ≡ numbered_from first (slice_set xs i y)
  with_value-numbered first i y [] within = absurd (omega arith)
  with_value-numbered first zero y (x ∷ xs) within = rw (here first, nat_itself first) refl
  with_value-numbered first (suc i) y (x ∷ xs) within =
      let rest = numbered_from (first + 1) xs in
      later (first + suc i) first y x rest (omega arith)
      ∙ ap (λ (es : List (ℕ × A)). (first, x) ∷ es)
      (ap (λ (n : ℕ). with_value nat_cmp n y rest) (next first i)
      ∙ with_value-numbered (first + 1) i y xs (omega arith))

  pub with_value-push : (first : ℕ) (y : A) (xs : List A)
      → with_value nat_cmp (first + length xs) y (numbered_from first xs) ≡ numbered_from first (xs ++ y ∷ [])
  with_value-push first y [] = rw (here first) refl
  with_value-push first y (x ∷ xs) =
      let rest = numbered_from (first + 1) xs in
      later (first + suc (length xs)) first y x rest (omega arith)
      ∙ ap (λ (es : List (ℕ × A)). (first, x) ∷ es)
      (ap (λ (n : ℕ). with_value nat_cmp n y rest) (next first (length xs)) ∙ with_value-push (first + 1) y xs)

  pub slice_get-numbered : (first i : ℕ) (xs : List A)
      → slice_get (numbered_from first xs) i ≡ option_map (λ (x : A). (first + i, x)) (slice_get xs i)
  slice_get-numbered first i [] = refl
  slice_get-numbered first zero (x ∷ xs) = rw (here first) refl
  slice_get-numbered first (suc i) (x ∷ xs) = rw (next first i) (slice_get-numbered (first + 1) i xs)

-- ---- their order

number_before : {A : Type 0} (k first : ℕ) (xs : List A) → k < first
    → IsBefore nat_cmp k (keys (numbered_from first xs))
number_before k first [] below = tt
number_before k first (x ∷ xs) below = (nat_less k first below, number_before k (first + 1) xs (omega (arith, below)))

pub numbered_rise : {A : Type 0} (first : ℕ) (xs : List A) → Rises nat_cmp (keys (numbered_from first xs))
numbered_rise first [] = tt
numbered_rise first (x ∷ xs) = (number_before first (first + 1) xs (omega arith), numbered_rise (first + 1) xs)
