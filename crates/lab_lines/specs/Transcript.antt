-- The transcript of a script: each line, and its report as notes.
use Rattle.std.specs.Prelude.{ℕ, false, List, []}
use Rattle.script_story.specs.declared.ending.Ending.{Ending}
use Rattle.script_story.specs.declared.ending.Ending.TheVariants as ending
use Rattle.script_story.specs.Evaluation.{RunEnvironment}
use Rattle.lab_text.specs.declared.status.LabStatus.{LabStatus}
use Rattle.lab_text.specs.declared.status.LabStatus.TheVariants.{Done, Refused, Foreign}
use Rattle.lab_text.specs.Outcomes.{Outcome}
use Rattle.lab_text.specs.Transcripts.{line_with_report}
use Rattle.lab_lines.specs.Folding.{FormOf, form_outcome}

-- The status of a script with this ending.
abbrev pub status_at : Ending → LabStatus
status_at ending.Done = Done
status_at (ending.Refused line number) = Refused
status_at (ending.Foreign line) = Foreign

-- The form of a transcript. The notes of the input are left out.
abbrev pub transcript_form : FormOf (Unit {0})
transcript_form = record {
  note = λ m note. m;
  before = λ m state line. m;
  line = λ m at. m;
  text = λ m at. line_with_report at.line at.report;
  end = λ m ending. record { text = []; status = status_at ending };
  reads_on = false;
}

-- The transcript of an input.
abbrev pub transcript_of : RunEnvironment → List ℕ → Outcome
transcript_of env input = form_outcome transcript_form env (tt {0}) input
