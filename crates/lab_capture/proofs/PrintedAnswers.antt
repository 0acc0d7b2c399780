-- What is read of the report of an answer is that answer.
use Rattle.std.proofs.Common.{◌≡◌, ℕ, ◌<◌, ◌^◌, Bool, true, false, not, eqb, List, [], ◌∷◌, ◌++◌, Option, Some, None}
use Rattle.std.proofs.Common.{codes, refl, sym, ap, ◌∙◌, arith, append-nil, append_assoc}
use Rattle.std.specs.Char.{is_ascii_digit}
use Rattle.std.specs.Fmt.{decimal}
use Rattle.std.specs.List.{list_all, slice_split}
use Rattle.std.proofs.lemmas.Bool.{and_from}
use Rattle.std.proofs.lemmas.Bool.Decides.{nat_tests}
use Rattle.ndn_name.specs.UriText.{decimal_of_text}
use Rattle.ndn_name.proofs.ComputedValues.{decimal_digits, decimal_is}
use Rattle.script_lang.proofs.Conditions.{and_left, and_right, weaker}
use Rattle.script_report.specs.Texts.{after_spaces, command_text, line}
use Rattle.lab_text.specs.LineTexts.{without_feed}
use Rattle.lab_text.proofs.Feeds.{feed_gone}
use Rattle.lab_capture.specs.Answers.{AreOneAtMost, answer_in, answer_report, is_one_word, most_code, most_number}
use Rattle.lab_capture.specs.Answers.{report_words}

-- ---- the words of a line

abbrev is_space : ℕ → Bool
is_space octet = eqb octet 32

abbrev are_words : List (List ℕ) → Bool
are_words words = list_all is_one_word words

no_space : (c : ℕ) → not (eqb c 32) ≡ true → eqb c 32 ≡ false
no_space c h = grind (arith, nat_tests)

splits : (word rest : List ℕ) → is_one_word word ≡ true
    → slice_split is_space (word ++ 32 ∷ rest) ≡ word ∷ slice_split is_space rest
splits [] rest h = refl
splits (c ∷ cs) rest h = rw (
  no_space c (and_left (not (eqb c 32)) _ h),
  splits cs rest (and_right (not (eqb c 32)) _ h),
) refl

split_last : (word : List ℕ) → is_one_word word ≡ true → slice_split is_space word ≡ word ∷ []
split_last [] h = refl
split_last (c ∷ cs) h = rw (
  no_space c (and_left (not (eqb c 32)) _ h),
  split_last cs (and_right (not (eqb c 32)) _ h),
) refl

split_words : (word : List ℕ) (words : List (List ℕ)) → is_one_word word ≡ true → are_words words ≡ true
    → slice_split is_space (word ++ after_spaces words) ≡ word ∷ words
split_words word [] h k = ap (slice_split is_space) (append-nil word) ∙ split_last word h
split_words word (next ∷ words) h k =
    splits word (next ++ after_spaces words) h
    ∙ ap (λ (ws : List (List ℕ)). word ∷ ws)
    (split_words next words (and_left (is_one_word next) _ k) (and_right (is_one_word next) _ k))

words_are : (verb : List ℕ) (words : List (List ℕ)) → is_one_word verb ≡ true → are_words words ≡ true
    → report_words (line verb words) ≡ verb ∷ words
unfolding line
words_are verb words h k =
    ap (λ (text : List ℕ). slice_split is_space (without_feed text))
    (sym (append_assoc verb (after_spaces words) (10 ∷ [])))
    ∙ ap (slice_split is_space) (feed_gone (verb ++ after_spaces words)) ∙ split_words verb words h k

-- ---- numbers

digit_is_none : (c : ℕ) → is_ascii_digit c ≡ true → not (eqb c 32) ≡ true
digit_is_none c h = grind (arith, nat_tests)

number_word : (n : ℕ) → n < 2 ^ 64 → is_one_word (decimal n) ≡ true
number_word n small =
    weaker is_ascii_digit (λ c. not (eqb c 32)) digit_is_none (decimal n) (decimal_digits n small)

module _ (verb label : List ℕ) (code : ℕ) (v : is_one_word verb ≡ true) (l : is_one_word label ≡ true)
    (c : code < 2 ^ 16) where
  code_small : code < 2 ^ 64
  code_small = omega (arith, c)

  code_is : decimal_of_text most_code (decimal code) ≡ Some code
  code_is = decimal_is most_code code (decimal code) (omega arith) (omega (arith, c), refl)

  number_is : (n : ℕ) → n < 2 ^ 64 → decimal_of_text most_number (decimal n) ≡ Some n
  number_is n small = decimal_is most_number n (decimal n) (omega arith) (omega (arith, small), refl)

  abbrev with_code : List (List ℕ) → List (List ℕ)
  with_code words = label ∷ decimal code ∷ words

  said : (words : List (List ℕ)) → are_words words ≡ true
      → answer_report (line verb (with_code words)) ≡ answer_in (verb ∷ with_code words)
  said words k = ap answer_in (words_are verb (with_code words) v
      (and_from (is_one_word label) _ l (and_from (is_one_word (decimal code)) _ (number_word code code_small) k)))

  field_words : (word : List ℕ) (n : ℕ) → is_one_word word ≡ true → n < 2 ^ 64
      → are_words (word ∷ decimal n ∷ []) ≡ true
  field_words word n w small =
      and_from (is_one_word word) _ w (and_from (is_one_word (decimal n)) true (number_word n small) refl)

  pub answer_read : (process inserted deleted : Option ℕ) → AreOneAtMost process inserted deleted
      → answer_report (command_text verb label code process inserted deleted)
      ≡ Some (record { code = code; process = process; inserted = inserted; deleted = deleted })
  answer_read None None None h = said [] refl ∙ rw code_is refl
  answer_read None None (Some n) h =
      said (codes "packets" ∷ decimal n ∷ []) (field_words (codes "packets") n refl h)
      ∙ rw (code_is, number_is n h) refl
  answer_read None (Some n) None h =
      said (codes "inserted" ∷ decimal n ∷ []) (field_words (codes "inserted") n refl h)
      ∙ rw (code_is, number_is n h) refl
  answer_read (Some n) None None h =
      said (codes "process" ∷ decimal n ∷ []) (field_words (codes "process") n refl h)
      ∙ rw (code_is, number_is n h) refl
  answer_read None (Some n) (Some k) h = absurd h
  answer_read (Some n) None (Some k) h = absurd h
  answer_read (Some n) (Some k) deleted h = absurd h
