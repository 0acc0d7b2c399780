-- What is read of the report of a command.
use Rattle.std.proofs.Common.{◌≡◌, ℕ, zero, suc, ◌<◌, ◌≤◌, ◌^◌, Bool, true, false, ◌&&◌, nat_le, List, [], ◌∷◌, length}
use Rattle.std.proofs.Common.{Some, None, Err, if◌then◌else◌, arith, ap, sym, refl, ◌∙◌, map, slice_index}
use Rattle.std.specs.Borrow.{Bor}
use Rattle.std.specs.Char.{is_ascii_digit}
use Rattle.std.specs.List.{list_all}
use Rattle.std.specs.Str.{IsUtf8, all_ascii_digits}
use Rattle.std.specs.Str.Parse.{digits_value, ParsesUnsigned}
use Rattle.std.proofs.lemmas.Bool.{false≢true}
use Rattle.std.proofs.lemmas.Bool.Decides.{nat_tests}
use Rattle.std.proofs.lemmas.Str.{IsUtf8-from_ascii}
use Rattle.std.proofs.lemmas.Str.Parse.{numerals_by_value, parse_digits, tells_all_ascii_digits}
use Rattle.ndn_name.specs.UriText.{decimal_of_text, is_decimal}
use Rattle.script_lang.proofs.Conditions.{and_left, and_right, le_tested}
use Rattle.lab_capture.specs.Answers.{answer_in}

-- ---- numbers

all_digits : (word : List ℕ) → list_all is_ascii_digit word ≡ all_ascii_digits word
all_digits [] = refl
all_digits (c ∷ cs) = ap (λ t. is_ascii_digit c && t) (all_digits cs)

listed_digits : (word : List ℕ) → is_decimal word ≡ true → list_all is_ascii_digit word ≡ true
listed_digits [] h = refl
listed_digits (c ∷ cs) h = and_right _ (list_all is_ascii_digit (c ∷ cs)) h

is_some : (word : List ℕ) → is_decimal word ≡ true → 0 < length word
is_some [] h = absurd (false≢true h)
is_some (c ∷ cs) h = omega arith

digit_is_ascii : (b : ℕ) → is_ascii_digit b ≡ true → b < 128
digit_is_ascii b h = grind (arith, nat_tests)

are_ascii : (bs : List ℕ) → list_all is_ascii_digit bs ≡ true → (i : ℕ) → slice_index bs i < 128
are_ascii [] h i = omega arith
are_ascii (b ∷ bs) h zero = digit_is_ascii b (and_left (is_ascii_digit b) _ h)
are_ascii (b ∷ bs) h (suc i) = are_ascii bs (and_right (is_ascii_digit b) _ h) i

-- digits are a text
pub digits_are_text : (word : List ℕ) → is_decimal word ≡ true → IsUtf8 word
digits_are_text word h = IsUtf8-from_ascii word (are_ascii word (listed_digits word h))

-- what 64 bits don't hold is above what they hold
module _ (most : ℕ) (small : most < 2 ^ 64) (word : List ℕ) where
  above : ((0 < length word) × (digits_value 10 word < 2 ^ 64) → ⊥) → 0 < length word → (b : Bool)
      → nat_le (digits_value 10 word) most ≡ b → None ≡ (if b then Some (digits_value 10 word) else None)
  above fails some true t =
      absurd (fails (some, let le = le_tested (digits_value 10 word) most t in omega (arith, le, small)))
  above fails some false t = refl

  pub too_large : {E : Type 0} (e : E) → is_decimal word ≡ true → ParsesUnsigned 64 10 word (Err e)
      → None ≡ decimal_of_text most word
  too_large e d h =
      let own = numerals_by_value (λ ds. all_ascii_digits ds ≡ true) tells_all_ascii_digits in
      let fails = parse_digits own 64 word (Err e) h (sym (all_digits word) ∙ listed_digits word d) in
      rw d (above fails (is_some word d) (nat_le (digits_value 10 word) most) refl)

-- ---- words

abbrev texts : List (Bor (List ℕ)) → List (List ℕ)
texts words = map (λ (word : Bor (List ℕ)). word.now) words

pub too_few : (words : List (Bor (List ℕ))) → length words < 3 → None ≡ answer_in (texts words)
too_few [] l = refl
too_few (a ∷ []) l = refl
too_few (a ∷ b ∷ []) l = refl
too_few (a ∷ b ∷ c ∷ words) l = absurd (omega (arith, l))

pub four : (words : List (Bor (List ℕ))) → 4 ≤ length words → length words < 5 → None ≡ answer_in (texts words)
four [] l u = absurd (omega (arith, l))
four (a ∷ []) l u = absurd (omega (arith, l))
four (a ∷ b ∷ []) l u = absurd (omega (arith, l))
four (a ∷ b ∷ c ∷ []) l u = absurd (omega (arith, l))
four (a ∷ b ∷ c ∷ d ∷ []) l u = refl
four (a ∷ b ∷ c ∷ d ∷ e ∷ words) l u = absurd (omega (arith, u))
