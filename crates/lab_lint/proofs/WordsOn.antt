-- The words of a line, one after another.
use Rattle.std.proofs.Common.{◌≡◌, ◌<◌, ◌-◌, ℕ, zero, suc, List, refl, arith}
use Rattle.lab_text.specs.Notes.{after_spaces}
use Rattle.lab_lint.specs.Columns.{after_word, words_on}

-- One more word is passed.
pub one_more : (count : ℕ) (octets : List ℕ) → 0 < count
    → words_on count octets ≡ words_on (count - 1) (after_spaces (after_word octets))
unfolding words_on
one_more zero octets more = absurd (omega (arith, more))
one_more (suc count) octets more =
    let fewer : suc count - 1 ≡ count = omega arith in
    rw fewer refl

-- No more word is passed.
pub no_more : (count : ℕ) (octets : List ℕ) → count ≡ 0 → words_on count octets ≡ octets
unfolding words_on
no_more count octets none = rw none refl
