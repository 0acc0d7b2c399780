-- A word of decimal digits is read as its number.
use Rattle.std.proofs.Common.{◌≡◌, ◌<◌, ◌^◌, ℕ, Bool, true, false, ◌&&◌, nat_le, List, [], ◌∷◌, length, Some}
use Rattle.std.proofs.Common.{None}
use Rattle.std.proofs.Common.{Result, Ok, Err, if◌then◌else◌, arith, ap, sym, refl, ◌∙◌}
use Rattle.std.specs.Char.{is_ascii_digit}
use Rattle.std.specs.List.{list_all}
use Rattle.std.specs.Result.{OkIff, result_ok}
use Rattle.std.specs.Str.{all_ascii_digits}
use Rattle.std.specs.Str.Parse.{digits_value, ParsesUnsigned}
use Rattle.std.proofs.lemmas.Bool.{false≢true}
use Rattle.std.proofs.lemmas.Str.Parse.{numerals_by_value, parse_digits, tells_all_ascii_digits}
use Rattle.script_lang.proofs.Conditions.{and_right, le_test, le_tested}
use Rattle.lab_top.specs.Words.{is_decimal, number_of}

all_digits : (word : List ℕ) → list_all is_ascii_digit word ≡ all_ascii_digits word
all_digits [] = refl
all_digits (c ∷ cs) = ap (λ t. is_ascii_digit c && t) (all_digits cs)

are_digits : (word : List ℕ) → is_decimal word ≡ true → all_ascii_digits word ≡ true
are_digits [] h = absurd (false≢true h)
are_digits (c ∷ cs) h = sym (all_digits (c ∷ cs)) ∙ and_right _ (list_all is_ascii_digit (c ∷ cs)) h

is_some : (word : List ℕ) → is_decimal word ≡ true → 0 < length word
is_some [] h = absurd (false≢true h)
is_some (c ∷ cs) h = omega arith

module _ {E : Type 0} where
  -- the number where 64 bits hold it
  kept : (r : Result ℕ E) (n : ℕ) → OkIff r (n < 2 ^ 64) n
      → result_ok r ≡ (if nat_le n 18446744073709551615 then Some n else None)
  kept (Ok x) n h = rw (le_test n 18446744073709551615 (omega (arith, h.0))) (ap (λ y. Some y) h.1)
  kept (Err e) n h = go (nat_le n 18446744073709551615) refl where
    go : (b : Bool) → nat_le n 18446744073709551615 ≡ b → None ≡ (if b then Some n else None)
    go true t = absurd (h (let le = le_tested n 18446744073709551615 t in omega (arith, le)))
    go false t = refl

  few : (r : Result ℕ E) (P Q : Type 0) (n : ℕ) → P → OkIff r (P × Q) n → OkIff r Q n
  few (Ok x) P Q n p h = (h.0.1, h.1)
  few (Err e) P Q n p h = λ q. h (p, q)

  pub read : (word : List ℕ) (r : Result ℕ E) → is_decimal word ≡ true → ParsesUnsigned 64 10 word r
      → result_ok r ≡ number_of word
  read word r d h =
      let own = numerals_by_value (λ ds. all_ascii_digits ds ≡ true) tells_all_ascii_digits in
      rw d (kept r (digits_value 10 word)
      (few r (0 < length word) (digits_value 10 word < 2 ^ 64) (digits_value 10 word) (is_some word d)
      (parse_digits own 64 word r h (are_digits word d))))
