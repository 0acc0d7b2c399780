-- How words and numbers are read, step by step.
use Rattle.std.proofs.Common.{◌≡◌, ◌-◌, ◌<◌, ◌≤◌, ℕ, zero, suc, List, [], ◌∷◌, length, Option, refl, ap, ◌∙◌, arith}
use Rattle.lab_picture.specs.Words.{after_word, first_word, number_after, with_digit, word_at}

pub no_word_before : (n : ℕ) (octets : List ℕ) → n ≤ 0 → word_at n octets ≡ first_word octets
unfolding word_at
no_word_before zero octets h = refl
no_word_before (suc n) octets h = absurd (omega (arith, h))

pub word_later : (n : ℕ) (octets : List ℕ) → 0 < n → word_at n octets ≡ word_at (n - 1) (after_word octets)
unfolding word_at
word_later zero octets h = absurd (omega (arith, h))
word_later (suc n) octets h =
    let e : n ≡ suc n - 1 = omega arith in ap (λ (m : ℕ). word_at m (after_word octets)) e

none_left : (n : Option ℕ) → number_after n [] ≡ n
unfolding number_after
none_left n = refl

pub all_read : (n : Option ℕ) (digits : List ℕ) → length digits ≡ 0 → number_after n digits ≡ n
all_read n [] e = none_left n
all_read n (digit ∷ digits) e = absurd (omega (arith, e))

one_digit : (n : Option ℕ) (digit : ℕ) (digits : List ℕ)
    → number_after n (digit ∷ digits) ≡ number_after (with_digit n digit) digits
unfolding number_after
one_digit n digit digits = refl

pub digit_read : (n : Option ℕ) (digit : ℕ) (others digits : List ℕ) → digits ≡ digit ∷ others
    → number_after n digits ≡ number_after (with_digit n digit) others
digit_read n digit others digits e = ap (number_after n) e ∙ one_digit n digit others
