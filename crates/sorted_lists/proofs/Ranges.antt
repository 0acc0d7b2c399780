-- Which numbers follow one another from one on.
use Rattle.std.proofs.Common.{◌≡◌, inl, inr, ℕ, suc, zero, ◌+◌, ◌≤◌, ◌<◌, length, get_or, refl, ap, ◌∙◌, arith}
use Rattle.std.proofs.lemmas.Bool.{cases_eq}
use Rattle.sorted_lists.specs.Range.{numbers_from}
use Rattle.sorted_lists.proofs.Sets.{In}

pub from_numbers : (first n x : ℕ) → In x (numbers_from first n) → (first ≤ x) × (x < first + n)
from_numbers first zero x i = absurd i
from_numbers first (suc n) x (inl e) = (omega arith, omega arith)
from_numbers first (suc n) x (inr i) =
    let r : (first + 1 ≤ x) × (x < first + 1 + n) = from_numbers (first + 1) n x i in (omega arith, omega arith)

pub in_numbers : (first n x : ℕ) → first ≤ x → x < first + n → In x (numbers_from first n)
in_numbers first zero x a b = absurd (omega arith)
in_numbers first (suc n) x a b = elim (cases_eq x first) [
  | inl e ↦ inl e
  | inr m ↦ inr (in_numbers (first + 1) n x (omega (arith, m)) (omega arith))
]

pub length-numbers : (first n : ℕ) → length (numbers_from first n) ≡ n
length-numbers first zero = refl
length-numbers first (suc n) = ap suc (length-numbers (first + 1) n)

pub number_at : (first n i : ℕ) → i < n → get_or (numbers_from first n) i 0 ≡ first + i
number_at first zero i l = absurd (omega arith)
number_at first (suc n) zero l = omega arith
number_at first (suc n) (suc i) l = number_at (first + 1) n i (omega arith) ∙ omega arith
