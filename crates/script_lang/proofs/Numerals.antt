-- Numerals are read as numbers.
use Rattle.std.proofs.Common.{get_or, nat_le, ◌≡◌, ◌≢◌, ◌<◌, ◌≤◌, ◌^◌}
use Rattle.std.proofs.Common.{ℕ, true, List, [], ◌∷◌, length, arith, refl}
use Rattle.std.specs.Char.{is_ascii_digit, digit_value}
use Rattle.std.specs.List.{list_all}
use Rattle.std.specs.Str.Parse.{digits_value, AllDigits, IsNumeral, without_leading_plus}
use Rattle.std.proofs.lemmas.Int.Digits.{digits_value-lt}
use Rattle.std.proofs.lemmas.Bool.Decides.{nat_tests}
use Rattle.std.proofs.lemmas.Bool.{false≢true, and_from}
use Rattle.std.proofs.lemmas.Grind.{common_steps}
use Rattle.std.proofs.Math.Nat.{pow-le-pow_right}
use Rattle.std.specs.Fmt.{decimal}
use Rattle.std.proofs.lemmas.Fmt.{length-decimal-le, decimal_nonempty}
use Rattle.std.proofs.lemmas.Fmt.{decimal_is_IsNumeral, decimal-digits_value}
use Rattle.ndn_name.proofs.ComputedValues.{numerals, decimal_digits, first_of_decimal, zero_alone, zero_first}
use Rattle.script_lang.specs.Kinds.{is_numeral}
use Rattle.script_lang.proofs.Conditions.{and_left, and_right, le_test, other_test}

digit_below : (c : ℕ) → is_ascii_digit c ≡ true → digit_value c < 10
digit_below c h = grind (arith, nat_tests)

no_plus : (c : ℕ) → is_ascii_digit c ≡ true → c ≢ 43
no_plus c h = grind (arith, nat_tests)

all_digits : (word : List ℕ) → list_all is_ascii_digit word ≡ true → AllDigits 10 word
all_digits [] h = tt
all_digits (c ∷ cs) h = (
  digit_below c (and_left (is_ascii_digit c) _ h),
  all_digits cs
      (and_right (is_ascii_digit c) _ h),
)

pub are_digits : (word : List ℕ) → is_numeral word ≡ true → list_all is_ascii_digit word ≡ true
are_digits [] h = refl
are_digits (first ∷ others) h = and_right _ (list_all is_ascii_digit (first ∷ others)) h

pub is_short : (word : List ℕ) → is_numeral word ≡ true → length word ≤ 18
is_short [] h = omega arith
is_short (first ∷ others) h = short first others h where
  short : (first : ℕ) (others : List ℕ) → is_numeral (first ∷ others) ≡ true → length
      (first ∷ others) ≤ 18
  short first others h = grind (arith, common_steps, nat_tests)

pub below_limit : (word : List ℕ) → is_numeral word ≡ true → digits_value 10 word < 10 ^ 18
below_limit word h =
    let less = digits_value-lt 10 word (all_digits word (are_digits word h)) in
    let power = pow-le-pow_right {n = 10} (omega arith) {i = length word} {j = 18} (is_short word h) in
    omega (arith, less, power)

plain : (c : ℕ) (cs : List ℕ) → c ≢ 43 → without_leading_plus (c ∷ cs) ≡ c ∷ cs
plain c cs other = rw (other_test c 43 other) refl

-- what `parse` asks of a text
pub is_parsed : (word : List ℕ) → is_numeral word ≡ true
    → IsNumeral 10 (without_leading_plus word) × (digits_value 10 (without_leading_plus word) < 2 ^ 64)
is_parsed [] h = absurd (false≢true h)
is_parsed (c ∷ cs) h =
    let digits = are_digits (c ∷ cs) h in
    let low = below_limit (c ∷ cs) h in
    let some : 0 < length (c ∷ cs) = omega arith in
    rw (plain c cs (no_plus c (and_left (is_ascii_digit c) _ digits)))
    ((some, all_digits (c ∷ cs) digits), omega (arith, low))

-- ---- numbers as they are printed

numeral_from : (ds : List ℕ) → 0 < length ds → length ds ≤ 18 → list_all is_ascii_digit ds ≡ true
    → (get_or ds 0 0 ≡ 48 → length ds ≡ 1) → is_numeral ds ≡ true
numeral_from [] some short digits first = absurd (omega arith)
numeral_from (c ∷ cs) some short digits first =
    and_from _ (list_all is_ascii_digit (c ∷ cs))
    (and_from (nat_le (length cs) 17) _ (le_test (length cs) 17 (omega arith))
    (zero_alone c (length cs) (λ h. (let one = first h in omega arith)))) digits

pub decimal_numeral : (n : ℕ) → n < 10 ^ 18 → is_numeral (decimal n) ≡ true
decimal_numeral n small =
    let low : n < 2 ^ 64 = omega arith in
    numeral_from (decimal n) (decimal_nonempty n low) (length-decimal-le 18 n (omega arith) small low)
    (decimal_digits n low) (first_of_decimal n low)

pub decimal_value : (n : ℕ) → n < 10 ^ 18 → digits_value 10 (decimal n) ≡ n
decimal_value n small = let low : n < 2 ^ 64 = omega arith in (decimal_is_IsNumeral n low).1

-- ---- and back

pub printed_again : (word : List ℕ) → is_numeral word ≡ true → decimal (digits_value 10 word) ≡ word
printed_again [] h = absurd (false≢true h)
printed_again (c ∷ cs) h =
    let low = below_limit (c ∷ cs) h in
    decimal-digits_value numerals (c ∷ cs) (are_digits (c ∷ cs) h) (omega arith)
    (λ e. (let none : length cs ≡ 0 = zero_first c (length cs)
    (and_right _ _ (and_left _ _ h)) e in omega arith)) (omega (arith, low))
