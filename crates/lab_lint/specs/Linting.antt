-- What is written of an input: each line of its script that is refused, evaluated after those that weren't.
use Rattle.std.specs.Prelude.{ℕ, ◌+◌, ◌-◌, ◌==◌, Bool, ◌&&◌, Option, Some, None, Result, Ok, Err, List, [], ◌∷◌, ◌++◌}
use Rattle.std.specs.Prelude.{codes, decimal, length, nat_le, nat_lt, take, if◌then◌else◌}
use Rattle.script_lang.specs.declared.line_fault.LineFault.{LineFault}
use Rattle.script_lang.specs.declared.check_fault.CheckFault.{CheckFault}
use Rattle.script_lang.specs.Limits.{line_octets, script_lines, script_octets}
use Rattle.script_lang.specs.Forms.{Stated}
use Rattle.script_lang.specs.Lines.{line_of}
use Rattle.script_lang.specs.Checking.{Declared, after_line, nothing_declared}
use Rattle.repo_io.specs.Lines.{lines}
use Rattle.lab_text.specs.LineTexts.{without_feed}
use Rattle.lab_text.specs.Notes.{is_note}
use Rattle.lab_text.specs.Outcomes.{Outcome}
use Rattle.lab_text.specs.declared.status.LabStatus.{LabStatus}
use Rattle.lab_text.specs.declared.status.LabStatus.TheVariants.{Done, Refused}
use Rattle.lab_lint.specs.Columns.{body_of}
use Rattle.lab_text.specs.Limits.{most_lines, most_octets}
use Rattle.lab_lint.specs.Findings.{Finding, check_finding, finding_text, input_finding, line_finding}
use Rattle.lab_lint.specs.Findings.{script_finding}

-- The result of the lines so far. `lines` and `octets` count all lines, notes among them; `number` counts the lines of
-- the script, `taken` those of them that weren't refused, and `script` the octets of these; `declared` is what the
-- lines that weren't refused declared.
pub record Passed : Type 0 where
  pub lines : ℕ
  pub octets : ℕ
  pub number : ℕ
  pub taken : ℕ
  pub script : ℕ
  pub declared : Declared

-- The result before the first line.
abbrev pub nothing_passed : Passed
nothing_passed =
    record { lines = 0; octets = 0; number = 0; taken = 0; script = 0; declared = nothing_declared }

-- The result after one more note.
abbrev pub after_note : Passed → List ℕ → Passed
after_note p line = record p { lines = p.lines + 1; octets = p.octets + length line }

-- The result after one more line that is refused, which changes nothing of what is declared.
abbrev pub after_refused : Passed → List ℕ → Passed
after_refused p line = record p { lines = p.lines + 1; octets = p.octets + length line; number = p.number + 1 }

-- The result after one more line that isn't refused, with which `d` is declared.
abbrev pub after_taken : Passed → List ℕ → Declared → Passed
after_taken p line d = record {
  lines = p.lines + 1;
  octets = p.octets + length line;
  number = p.number + 1;
  taken = p.taken + 1;
  script = p.script + length line;
  declared = d;
}

-- ---- the next line

-- One more line is within the limits of an input.
abbrev pub fits : Passed → List ℕ → Bool
fits p line = nat_lt p.lines most_lines && nat_le (p.octets + length line) most_octets

-- One more line that is taken is within the limits of a script.
abbrev pub is_within_script : Passed → List ℕ → Bool
is_within_script p line = nat_lt p.taken script_lines && nat_le (p.script + length line) script_octets

-- The line is a note, and no longer than a line may be. A longer note is evaluated as a line of the script.
abbrev pub is_short_note : List ℕ → Bool
is_short_note line = is_note line && nat_le (length (without_feed line)) line_octets

-- How a line of the script is evaluated: it is refused with a finding, or taken, and then this is declared after it.
pub data Evaluated : Type 0 where
  line_refused : Finding → Evaluated
  line_taken : Declared → Evaluated

-- A line that can be read is evaluated by what the lines before it declared.
abbrev pub checked : Declared → Stated → List ℕ → Result Declared CheckFault → Evaluated
checked d s body (Ok after) = line_taken after
checked d s body (Err fault) = line_refused (check_finding fault d s body)

-- A line is evaluated by what it reads as.
abbrev pub read : Declared → List ℕ → Result (Option Stated) LineFault → Evaluated
read d line (Ok None) = line_taken d
read d line (Ok (Some s)) = checked d s (body_of line) (after_line d s)
read d line (Err fault) = line_refused (line_finding fault line)

-- A line is evaluated within the limits of a script.
abbrev pub evaluated : Passed → List ℕ → Evaluated
evaluated p line = if is_within_script p line then read p.declared line (line_of line) else line_refused script_finding

-- ---- all lines

-- What was written, how many lines of the script there are, and how many weren't refused.
pub record Linted : Type 0 where
  pub text : List ℕ
  pub number : ℕ
  pub taken : ℕ

-- A text, with how many lines of the script there are and how many weren't refused.
abbrev pub linted : List ℕ → ℕ → ℕ → Linted
linted text number taken = record { text = text; number = number; taken = taken }

-- The result `l` with `text` before its text.
abbrev pub with_text : List ℕ → Linted → Linted
with_text text l = linted (text ++ l.text) l.number l.taken

-- What is written of the line `line`, by how it is evaluated, and of the lines after it (`others`).
abbrev pub linted_line : (Passed → Linted) → Passed → List ℕ → Evaluated → Linted
linted_line others p line (line_refused f) = with_text (finding_text (p.number + 1) f) (others (after_refused p line))
linted_line others p line (line_taken d) = others (after_taken p line d)

-- A line beyond the limits of the input is the last that is read.
abbrev pub beyond : Passed → Linted
beyond p = linted (finding_text (p.number + 1) input_finding) (p.number + 1) p.taken

-- What is written of lines, where `p` is the result of the lines before them.
unfoldable pub lint_from : Passed → List (List ℕ) → Linted
lint_from p [] = linted [] p.number p.taken
lint_from p (line ∷ others) =
    if fits p line
    then if is_short_note line then lint_from (after_note p line) others
    else linted_line (λ next. lint_from next others) p line (evaluated p line)
    else beyond p

-- ---- the outcome

-- The last line: how many of the script's lines were refused.
abbrev pub sum_text : ℕ → ℕ → List ℕ
sum_text refused number =
    if refused == 0 then codes "clean " ++ decimal number ++ codes "\n"
    else codes "refused " ++ decimal refused ++ codes " of " ++ decimal number ++ codes "\n"

-- A script is clean, or it is refused.
abbrev pub end_of : ℕ → LabStatus
end_of refused = if refused == 0 then Done else Refused

-- The text with its last line, and the status.
abbrev pub outcome_of : Linted → Outcome
outcome_of l = record {
  text = l.text ++ sum_text (l.number - l.taken) l.number;
  status = end_of (l.number - l.taken);
}

-- What is written of octets that were read.
abbrev pub outcome_in : List ℕ → Outcome
outcome_in octets = outcome_of (lint_from nothing_passed (lines octets))

-- How many octets of an input are read at most: one more than it may have.
abbrev pub most_read : ℕ
most_read = most_octets + 1

-- What is written of an input.
abbrev pub lint_of : List ℕ → Outcome
lint_of input = outcome_in (take most_read input)
