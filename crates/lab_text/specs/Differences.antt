-- Where the lines that were expected and those that came differ.
use Rattle.std.specs.Prelude.{◌≡◌, ℕ, Bool, true, false, ◌&&◌, ◌==◌, List, [], ◌∷◌, ◌++◌, reverse, codes}
use Rattle.std.specs.Prelude.{if◌then◌else◌}
use Rattle.std.specs.Fmt.{decimal}
use Rattle.std.specs.Str.{bytes_eq}
use Rattle.lab_text.specs.LineTexts.{marked_line, marked_lines}
use Rattle.lab_text.specs.Transcripts.{shown_text}

-- Lines that were expected, and lines that came.
pub record Difference : Type 0 where
  pub expected : List (List ℕ)
  pub actual : List (List ℕ)

-- The lines that were expected, and those that came.
abbrev pub difference : List (List ℕ) → List (List ℕ) → Difference
difference expected actual = record { expected = expected; actual = actual }

-- What is left after the lines with which both begin.
unfoldable pub after_common_prefix : List (List ℕ) → List (List ℕ) → Difference
after_common_prefix [] actual = difference [] actual
after_common_prefix (line ∷ expected) [] = difference (line ∷ expected) []
after_common_prefix (line ∷ expected) (other ∷ actual) =
    if bytes_eq line other then after_common_prefix expected actual
    else difference (line ∷ expected) (other ∷ actual)

-- Both lists of lines from the last to the first.
abbrev pub reversed : Difference → Difference
reversed d = difference (reverse d.expected) (reverse d.actual)

-- What is left before the lines with which both end.
abbrev pub before_common_suffix : Difference → Difference
before_common_suffix d = reversed (after_common_prefix (reverse d.expected) (reverse d.actual))

-- What lies between the common prefix and the common suffix.
abbrev pub differing : List (List ℕ) → List (List ℕ) → Difference
differing expected actual = before_common_suffix (after_common_prefix expected actual)

-- There are no lines.
abbrev pub is_empty_list : List (List ℕ) → Bool
is_empty_list [] = true
is_empty_list (line ∷ others) = false

-- Nothing lies between them.
abbrev pub are_same : List (List ℕ) → List (List ℕ) → Bool
are_same expected actual =
    is_empty_list (after_common_prefix expected actual).expected
    && is_empty_list (after_common_prefix expected actual).actual

-- `- ` marks what was expected, `+ ` what was printed.
abbrev pub difference_text : Difference → List ℕ
difference_text d = marked_lines (codes "- ") d.expected ++ marked_lines (codes "+ ") d.actual

-- Both lists of lines are a common prefix, what differs, and a common suffix.
pub record LiesBetween (expected actual : List (List ℕ)) (d : Difference) : Type 0 where
  pub prefix : List (List ℕ)
  pub suffix : List (List ℕ)
  pub expected_is : expected ≡ (prefix ++ d.expected) ++ suffix
  pub came_is : actual ≡ (prefix ++ d.actual) ++ suffix

-- What differs neither begins nor ends with a common line.
pub record IsApart (d : Difference) : Type 0 where
  pub begins : after_common_prefix d.expected d.actual ≡ d
  pub ends : before_common_suffix d ≡ d

-- ---- of one line, and of all

-- A space, where a text follows it.
abbrev pub space_before : List ℕ → List ℕ
space_before [] = []
space_before (octet ∷ octets) = 32 ∷ []

-- `line 12 deliver 1 bob`, with a line feed.
abbrev pub numbered_line : ℕ → List ℕ → List ℕ
numbered_line number line =
    codes "line " ++ decimal number ++ marked_line (space_before (shown_text line)) (shown_text line)

-- What is written of the line of a number whose report was expected to have some lines, and has others: nothing where
-- they are the same.
abbrev pub line_difference_text : ℕ → List ℕ → List (List ℕ) → List (List ℕ) → List ℕ
line_difference_text number line expected actual =
    if are_same expected actual then []
    else numbered_line number line ++ difference_text (differing expected actual)

-- `same LINES`, or `differs LINES of LINES`, with a line feed.
abbrev pub sum_text : ℕ → ℕ → List ℕ
sum_text differing lines =
    if differing == 0 then codes "same " ++ decimal lines ++ 10 ∷ []
    else codes "differs " ++ decimal differing ++ codes " of " ++ decimal lines ++ 10 ∷ []
