-- The check of a script with notes: each line's report against the notes right after it.
use Rattle.std.specs.Prelude.{ℕ, Bool, true, List, [], ◌++◌, ◌==◌, if◌then◌else◌}
use Rattle.repo_io.specs.InMemory.{one_more}
use Rattle.script_story.specs.Evaluation.{RunEnvironment}
use Rattle.lab_text.specs.declared.status.LabStatus.TheVariants.{Done, Differs}
use Rattle.lab_text.specs.Differences.{are_same, line_difference_text, sum_text}
use Rattle.lab_text.specs.LineTexts.{line_texts}
use Rattle.lab_text.specs.Notes.{is_report_note, note_line}
use Rattle.lab_text.specs.Outcomes.{Outcome}
use Rattle.lab_lines.specs.Folding.{FormOf, Lined, form_outcome}

-- The last line so far: its number, its octets and its report, and what its notes say, each as a line. Before the first
-- line it is line 0, which is empty and has no report. `differing` counts the lines before it that differ.
pub record Checked : Type 0 where
  pub number : ℕ
  pub line : List ℕ
  pub report : List ℕ
  pub expected : List ℕ
  pub differing : ℕ

-- Before the first line.
abbrev pub nothing_checked : Checked
nothing_checked = record { number = 0; line = []; report = []; expected = []; differing = 0 }

-- The report of the last line is the one that its notes expect, line by line.
abbrev pub is_expected : Checked → Bool
is_expected c = are_same (line_texts c.expected) (line_texts c.report)

-- What is written of the last line: nothing where its report is the expected one.
abbrev pub last_text : Checked → List ℕ
last_text c = line_difference_text c.number c.line (line_texts c.expected) (line_texts c.report)

-- How many lines differ, the last one among them.
abbrev pub differing_lines : Checked → ℕ
differing_lines c = if is_expected c then c.differing else one_more c.differing

-- The last line is counted if it differs.
abbrev pub counted : Checked → Checked
counted c = record c { differing = differing_lines c }

-- A note of a report is expected of the last line. Others say nothing of it.
abbrev pub with_note : Checked → List ℕ → Checked
with_note c note = if is_report_note note then record c { expected = c.expected ++ note_line note } else c

-- One more line, of which nothing is expected yet.
abbrev pub with_line : Checked → Lined → Checked
with_line c at = record {
  number = at.number;
  line = at.line;
  report = at.report;
  expected = [];
  differing = differing_lines c;
}

-- The sum at the end. How the script ends is in the report of its last line.
abbrev pub checked_outcome : Checked → Outcome
checked_outcome c = record {
  text = last_text c ++ sum_text (differing_lines c) c.number;
  status = if differing_lines c == 0 then Done else Differs;
}

-- The form of a check.
abbrev pub check_form : FormOf Checked
check_form = record {
  note = with_note;
  before = λ c state line. c;
  line = with_line;
  text = λ c at. last_text c;
  end = λ c ending. checked_outcome c;
  reads_on = true;
}

-- The check of an input.
abbrev pub check_of : RunEnvironment → List ℕ → Outcome
check_of env input = form_outcome check_form env nothing_checked input
