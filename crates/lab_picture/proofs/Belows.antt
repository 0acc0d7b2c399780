-- Numbers of numbers, one after the other.
use Rattle.std.proofs.Common.{◌≡◌, ◌+◌, ◌++◌, ◌∷◌, ℕ, suc, List, [], refl, sym, ap, ◌∙◌, arith}
use Rattle.lab_picture.specs.Sights.{numbers_below}

pub none_below : (number : ℕ → ℕ) → numbers_below 0 number ≡ []
unfolding numbers_below
none_below number = refl

one_below_more : (n : ℕ) (number : ℕ → ℕ) → numbers_below (n + 1) number ≡ numbers_below n number ++ number n ∷ []
unfolding numbers_below
one_below_more n number = let e : n + 1 ≡ suc n = omega arith in ap (λ (m : ℕ). numbers_below m number) e

-- One more number is put down.
pub numbers_go_on : (so_far now : List ℕ) (n x : ℕ) (number : ℕ → ℕ) → so_far ≡ numbers_below n number
    → now ≡ so_far ++ x ∷ [] → x ≡ number n → now ≡ numbers_below (n + 1) number
numbers_go_on so_far now n x number e more is =
    more ∙ ap (λ (t : List ℕ). t ++ x ∷ []) e ∙ ap (λ (y : ℕ). numbers_below n number ++ y ∷ []) is
    ∙ sym (one_below_more n number)
