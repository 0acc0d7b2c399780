-- The words of a vector, one after another.
use Rattle.std.proofs.Common.{◌≡◌, ◌≤◌, ◌<◌, ◌⊎◌, ℕ, zero, suc, List, [], ◌∷◌, ◌++◌, Some, length, drop, refl, ap}
use Rattle.std.proofs.Common.{arith}
use Rattle.std.proofs.Common.{◌∙◌, ◌+◌, inl, inr, min, sym, append_assoc, append-nil}
use Rattle.std.proofs.lemmas.Bool.{cases_lt}
use Rattle.std.specs.Prelude.{Option, codes, slice_get, slice_index, unwrap_or}
use Rattle.std.specs.Fmt.{decimal}
use Rattle.script_report.specs.Texts.{after_spaces, labelled_numbers}

-- What is still to be written of a vector, from a place on.
abbrev pub known_from : ℕ → List (List ℕ) → List ℕ → List ℕ
known_from i labels numbers = after_spaces (labelled_numbers (drop i labels) (drop i numbers))

abbrev pub known_word : List ℕ → ℕ → List ℕ
known_word label n = 32 ∷ (label ++ codes "=" ++ decimal n)

some_is : {A : Type 0} (x y : A) → Some x ≡ Some y → x ≡ y
some_is {A = A} x y e = ap (λ (o : Option A). unwrap_or o x) e

next_known : (labels : List (List ℕ)) (numbers : List ℕ) (i : ℕ) (label : List ℕ) → slice_get labels i ≡ Some label
    → i < length numbers
    → known_from i labels numbers ≡ known_word label (slice_index numbers i) ++ known_from (suc i) labels numbers
unfolding labelled_numbers
next_known [] numbers i label there within = absurd cc
next_known (l ∷ labels) [] i label there within = absurd (omega (arith, within))
next_known (l ∷ labels) (n ∷ numbers) zero label there within =
    ap (λ (x : List ℕ). known_word x n ++ known_from zero labels numbers) (some_is l label there)
next_known (l ∷ labels) (n ∷ numbers) (suc i) label there within =
    next_known labels numbers i label there (omega (arith, within))

no_numbers : (labels : List (List ℕ)) → after_spaces (labelled_numbers labels []) ≡ []
unfolding labelled_numbers
no_numbers [] = refl
no_numbers (l ∷ labels) = refl

no_more : (labels : List (List ℕ)) (numbers : List ℕ) (i : ℕ) → (length labels ≤ i) ⊎ (length numbers ≤ i)
    → known_from i labels numbers ≡ []
unfolding labelled_numbers
no_more [] numbers zero over = refl
no_more [] numbers (suc i) over = refl
no_more (l ∷ labels) [] zero over = refl
no_more (l ∷ labels) [] (suc i) over = no_numbers (drop i labels)
no_more (l ∷ labels) (n ∷ numbers) zero over = elim over [
  | inl a ↦ absurd (omega (arith, a))
  | inr b ↦ absurd
      (omega (arith, b))
]
no_more (l ∷ labels) (n ∷ numbers) (suc i) over = no_more labels numbers i (elim over [
  | inl a ↦ inl
      (omega (arith, a))
  | inr b ↦ inr (omega (arith, b))
])

-- One more number was written.
pub known_more : (labels : List (List ℕ)) (numbers : List ℕ) (i : ℕ) (label : List ℕ) (n : ℕ) (mid new whole : List ℕ)
    → slice_get labels i ≡ Some label → i < length numbers → n ≡ slice_index numbers i
    → mid ++ known_from i labels numbers ≡ whole → new ≡ mid ++ known_word label n
    → new ++ known_from (i + 1) labels numbers ≡ whole
known_more labels numbers i label n mid new whole there within is w more =
    let next : i + 1 ≡ suc i = omega arith in
    ap (λ (s : List ℕ). s ++ known_from (i + 1) labels numbers)
    (more ∙ ap (λ (k : ℕ). mid ++ known_word label k) is)
    ∙ ap (λ (k : ℕ). (mid ++ known_word label (slice_index numbers i)) ++ known_from k labels numbers) next
    ∙ append_assoc mid (known_word label (slice_index numbers i)) (known_from (suc i) labels numbers)
    ∙ ap (λ (s : List ℕ). mid ++ s) (sym (next_known labels numbers i label there within)) ∙ w

-- All numbers were written.
pub known_end : (labels : List (List ℕ)) (numbers : List ℕ) (i : ℕ) (mid whole : List ℕ)
    → min (length labels) (length numbers) ≤ i → mid ++ known_from i labels numbers ≡ whole → mid ≡ whole
known_end labels numbers i mid whole over w =
    sym (append-nil mid) ∙ ap (λ (s : List ℕ). mid ++ s) (sym (no_more labels numbers i either)) ∙ w where
      either : (length labels ≤ i) ⊎ (length numbers ≤ i)
      either = elim (cases_lt (length numbers) (length labels)) [
        | inl less ↦ inr (omega arith)
        | inr most ↦ inl (omega arith)
      ]
