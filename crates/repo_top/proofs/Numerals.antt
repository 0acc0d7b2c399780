-- Numerals: words that are numbers.
use Rattle.std.proofs.Common.{◌≡◌, ◌+◌, ◌*◌, ◌-◌, ◌<◌, ◌≤◌, ◌^◌, ℕ, add-one, Bool, true, false, List}
use Rattle.std.proofs.Common.{length, get_or, take, arith, ◌∙◌, sym, ap, refl}
use Rattle.std.specs.Char.{is_ascii_digit, digit_value}
use Rattle.std.specs.Str.Parse.{digits_value}
use Rattle.std.proofs.lemmas.Int.Digits.{digits_value_more}
use Rattle.std.proofs.lemmas.List.Folds.{list_all_at}
use Rattle.std.proofs.lemmas.Bool.Decides.{nat_tests}
use Rattle.std.proofs.lemmas.Bool.{false≢true}
use Rattle.std.proofs.Math.Nat.{pow-le-pow_right, pow-suc}
use Rattle.script_lang.specs.Kinds.{is_numeral}
use Rattle.script_lang.proofs.Numerals.{are_digits}

pub digit_is : (word : List ℕ) (i : ℕ) → is_numeral word ≡ true → i < length word
    → is_ascii_digit (get_or word i 0) ≡ true
digit_is word i h lt = go (is_ascii_digit (get_or word i 0)) refl where
  go : (b : Bool) → is_ascii_digit (get_or word i 0) ≡ b → is_ascii_digit (get_or word i 0) ≡ true
  go true e = e
  go false e = absurd (false≢true (sym (list_all_at is_ascii_digit word i 0 lt e) ∙ are_digits word h))

digit_is_value : (c : ℕ) → is_ascii_digit c ≡ true → digit_value c ≡ c - 48
digit_is_value c h = grind (arith, nat_tests)

pub digit_bounds : (c : ℕ) → is_ascii_digit c ≡ true → (48 ≤ c) × (c ≤ 57)
digit_bounds c h = grind (arith, nat_tests)

pub value_more : (word : List ℕ) (i : ℕ) → i < length word → is_ascii_digit (get_or word i 0) ≡ true
    → digits_value 10 (take (i + 1) word) ≡ digits_value 10 (take i word) * 10 + (get_or word i 0 - 48)
value_more word i lt digit = digits_value_more 10 word i lt
    ∙ ap (λ (d : ℕ). digits_value 10 (take i word) * 10 + d) (digit_is_value (get_or word i 0) digit)

pub ten_times : (i : ℕ) → 10 ^ (i + 1) ≡ 10 ^ i * 10
ten_times i = rw add-one (pow-suc 10 i)

pub small_power : (i : ℕ) → i < 18 → 10 ^ i * 10 ≤ 10 ^ 18
small_power i lt = rw (← ten_times i) (pow-le-pow_right {n = 10} (omega arith) {i = i + 1} {j = 18} (omega arith))
