-- What is found wrong with a line, and the line of text that says so.
use Rattle.std.specs.Prelude.{ℕ, Option, Some, None, List, [], ◌++◌, codes, decimal}
use Rattle.script_lang.specs.Limits.{contents_limit, members_limit, mirrors_limit, parts_limit, script_lines}
use Rattle.script_lang.specs.Limits.{script_octets, settles_limit}
use Rattle.script_lang.specs.declared.line_fault.LineFault.{LineFault}
use Rattle.script_lang.specs.declared.line_fault.LineFault.TheVariants as line_fault
use Rattle.script_lang.specs.declared.check_fault.CheckFault.{CheckFault}
use Rattle.script_lang.specs.declared.check_fault.CheckFault.TheVariants as check_fault
use Rattle.script_lang.specs.Forms.{Stated}
use Rattle.script_lang.specs.Checking.{Declared}
use Rattle.script_lang.specs.WrongWords.{wrong_of}
use Rattle.script_report.specs.declared.refusal.Refusal.{Refusal}
use Rattle.script_report.specs.declared.refusal.Refusal.TheVariants as refusal
use Rattle.script_report.specs.Refusals.{refusal_word}
use Rattle.lab_text.specs.Limits.{most_lines, most_octets}
use Rattle.lab_lint.specs.Columns.{body_of, column_of, first_word, from_place, from_verb}
use Rattle.lab_lint.specs.Expected.{wrong_column, wrong_text}
use Rattle.lab_lint.specs.Labels.{checked_place}

-- Why a line is refused, the column of the first octet that is wrong, and what was expected.
pub record Finding : Type 0 where
  pub why : Refusal
  pub column : ℕ
  pub expected : List ℕ

-- A refusal, the column of the wrong word, from 1 on, and what was expected there.
abbrev pub finding : Refusal → ℕ → List ℕ → Finding
finding why column expected = record { why = why; column = column; expected = expected }

-- How the line of text begins: the number of the line, the refusal and the column.
abbrev pub begin_text : ℕ → Refusal → ℕ → List ℕ
begin_text number why column = decimal number ++ codes " " ++ refusal_word why ++ codes " at " ++ decimal column
    ++ codes ": "

-- The line of text that is written of a finding.
abbrev pub finding_text : ℕ → Finding → List ℕ
finding_text number f = begin_text number f.why f.column ++ (f.expected ++ codes "\n")

-- ---- a line by itself

-- The refusal of a line that can't be read.
abbrev pub line_refusal : LineFault → Refusal
line_refusal line_fault.Syntax = refusal.Syntax
line_refusal line_fault.Limit = refusal.Limit
line_refusal line_fault.NoMemory = refusal.Limit

-- What is wrong with a line that can't be read.
abbrev pub line_finding : LineFault → List ℕ → Finding
line_finding fault line = finding (line_refusal fault) (wrong_column (wrong_of fault line) (body_of line))
    (wrong_text fault (wrong_of fault line) (body_of line))

-- ---- a line after those before it

-- The refusal of a line that the lines before it don't allow.
abbrev pub check_refusal : CheckFault → Refusal
check_refusal check_fault.NoGroup = refusal.NoGroup
check_refusal check_fault.Late = refusal.Late
check_refusal check_fault.UnknownLabel = refusal.UnknownLabel
check_refusal check_fault.Duplicate = refusal.Duplicate
check_refusal check_fault.Limit = refusal.Limit
check_refusal check_fault.TooLarge = refusal.TooLarge
check_refusal check_fault.NoMemory = refusal.Limit

-- What is expected where the lines before a line don't allow it: of a word that is unknown or declared already, the
-- word itself.
abbrev pub check_text : CheckFault → List ℕ → List ℕ
check_text check_fault.NoGroup word = codes "a group line comes first"
check_text check_fault.Late word = codes "declarations come before events"
check_text check_fault.UnknownLabel word = word
check_text check_fault.Duplicate word = word
check_text check_fault.Limit word = codes "at most " ++ decimal members_limit ++ codes " members, as many clients, and "
    ++ decimal mirrors_limit ++ codes " mirrors"
check_text check_fault.TooLarge word = codes "at most " ++ decimal contents_limit ++ codes " octets of content, "
    ++ decimal parts_limit ++ codes " parts and " ++ decimal settles_limit ++ codes " settles"
check_text check_fault.NoMemory word = []

-- A line from the word at `place` on, or from its verb on where no place is given.
abbrev pub from_checked : Option ℕ → List ℕ → List ℕ
from_checked None body = from_verb body
from_checked (Some place) body = from_place place body

-- What is wrong with a line that is refused for the first word of the rest.
abbrev pub finding_at : CheckFault → List ℕ → List ℕ → Finding
finding_at fault body rest =
    finding (check_refusal fault) (column_of body rest) (check_text fault (first_word rest))

-- What is wrong with a line that the lines before it don't allow.
abbrev pub check_finding : CheckFault → Declared → Stated → List ℕ → Finding
check_finding fault d s body = finding_at fault body (from_checked (checked_place fault d s) body)

-- ---- limits over lines

-- The text that says how many lines and octets there may be.
abbrev pub limits_text : List ℕ → ℕ → ℕ → List ℕ
limits_text subject lines octets =
    subject ++ codes " has at most " ++ decimal lines ++ codes " lines and " ++ decimal octets ++ codes " octets"

-- The script has too many lines or octets.
abbrev pub script_finding : Finding
script_finding = finding refusal.Limit 1 (limits_text (codes "a script") script_lines script_octets)

-- The input has too many lines or octets.
abbrev pub input_finding : Finding
input_finding = finding refusal.Limit 1 (limits_text (codes "an input") most_lines most_octets)
