-- What the report of a command says of its answer.
use Rattle.std.specs.Prelude.{ℕ, ◌==◌, Bool, not, List, [], ◌∷◌, Option, Some, None, codes, if◌then◌else◌}
use Rattle.std.specs.List.{list_all, slice_split}
use Rattle.std.specs.Option.{option_map}
use Rattle.std.specs.Str.{bytes_eq}
use Rattle.ndn_name.specs.UriText.{decimal_of_text}
use Rattle.repo_command.specs.declared.answer.Answer.{Answer}
use Rattle.repo_command.specs.Answers.{IsSmall, code_only}
use Rattle.lab_text.specs.LineTexts.{without_feed}

-- The words of a report of one line, which single spaces separate.
abbrev pub report_words : List ℕ → List (List ℕ)
report_words report = slice_split (λ octet. octet == 32) (without_feed report)

-- The greatest number of 16 bits.
abbrev pub most_code : ℕ
most_code = 65535

-- The greatest number of 64 bits.
abbrev pub most_number : ℕ
most_number = 18446744073709551615

-- An answer of a code and a number, by the word before the number.
abbrev pub answer_field : ℕ → List ℕ → ℕ → Option Answer
answer_field code word n =
    if bytes_eq word (codes "process") then Some (record (code_only code) { process = Some n })
    else if bytes_eq word (codes "inserted") then Some (record (code_only code) { inserted = Some n })
    else if bytes_eq word (codes "packets") then Some (record (code_only code) { deleted = Some n })
    else None

-- The answer of a code and the number `n`, by the word before the number, if both could be read.
abbrev pub answer_with : Option ℕ → List ℕ → Option ℕ → Option Answer
answer_with (Some code) word (Some n) = answer_field code word n
answer_with _ word n = None

-- The answer that the words of a report say: after the verb and the label of the member a code, and a number where the
-- answer has one.
abbrev pub answer_in : List (List ℕ) → Option Answer
answer_in (verb ∷ label ∷ code ∷ []) = option_map code_only (decimal_of_text most_code code)
answer_in (verb ∷ label ∷ code ∷ word ∷ number ∷ []) =
    answer_with (decimal_of_text most_code code) word (decimal_of_text most_number number)
answer_in words = None

-- The answer that a report says, if it says one.
abbrev pub answer_report : List ℕ → Option Answer
answer_report report = answer_in (report_words report)

-- ---- printed answers

-- No octet is a space.
abbrev pub is_one_word : List ℕ → Bool
is_one_word word = list_all (λ octet. not (octet == 32)) word

-- At most one of three numbers is given, and it is below 2 ^ 64.
abbrev pub AreOneAtMost : Option ℕ → Option ℕ → Option ℕ → Type 0
AreOneAtMost None None n = IsSmall n
AreOneAtMost None n None = IsSmall n
AreOneAtMost n None None = IsSmall n
AreOneAtMost a b c = ⊥
