-- The trace of a script: its transcript, and after the report of a line the notes that say something new.
use Rattle.std.specs.Prelude.{ℕ, false, List, [], ◌++◌, Option, Some, None}
use Rattle.group_model.specs.World.{World}
use Rattle.script_lang.specs.Checking.{Declared}
use Rattle.script_report.specs.Labels.{label_at}
use Rattle.script_story.specs.Evaluation.{RunEnvironment, State}
use Rattle.script_story.specs.Mirrors.{Mirroring}
use Rattle.lab_text.specs.Outcomes.{Outcome}
use Rattle.lab_text.specs.Transcripts.{line_with_report}
use Rattle.lab_lines.specs.Folding.{FormOf, form_outcome}
use Rattle.lab_lines.specs.Transcript.{status_at}
use Rattle.lab_trace.specs.declared.values.Values.{Values}
use Rattle.lab_trace.specs.Changes.{changes, notes_from}
use Rattle.lab_trace.specs.StateNotes.{Noted, member_labels, world_values}

-- ---- what is new

-- The new notes of the members.
abbrev pub member_notes : Declared → List (Option Values) → List ℕ
member_notes d changes = notes_from (member_labels d) (label_at (member_labels d)) 0 changes

-- The new notes of the mirrors.
abbrev pub mirror_notes : Declared → List (Option Values) → List ℕ
mirror_notes d changes = notes_from (member_labels d) (label_at d.mirrors) 0 changes

abbrev pub new_notes : Declared → Noted → Noted → List ℕ
new_notes d last now =
    member_notes d (changes last.members now.members) ++ mirror_notes d (changes last.mirrors now.mirrors)

-- ---- after a line

-- The notes that are written after a line, where the last notes say `last`. Before the first event there is no world,
-- and nothing to note.
abbrev pub world_notes : Noted → Declared → List Mirroring → Option World → List ℕ
world_notes last d mirrors None = []
world_notes last d mirrors (Some w) = new_notes d last (world_values mirrors w)

-- What the last notes say after a line.
abbrev pub world_noted : Noted → List Mirroring → Option World → Noted
world_noted last mirrors None = last
world_noted last mirrors (Some w) = world_values mirrors w

-- At a line that stops the script nothing is noted.
abbrev pub state_notes : Noted → Option State → List ℕ
state_notes last None = []
state_notes last (Some s) = world_notes last s.declared s.mirrors s.world

abbrev pub state_noted : Noted → Option State → Noted
state_noted last None = last
state_noted last (Some s) = world_noted last s.mirrors s.world

-- ---- the form

-- At the beginning nothing is noted.
abbrev pub nothing_noted : Noted
nothing_noted = record { members = []; mirrors = [] }

-- The form of a trace. It keeps what the last notes say.
abbrev pub trace_form : FormOf Noted
trace_form = record {
  before = λ last state line. last;
  note = λ last note. last;
  line = λ last at. state_noted last at.after;
  text = λ last at. line_with_report at.line at.report ++ state_notes last at.after;
  end = λ last ending. record { text = []; status = status_at ending };
  reads_on = false;
}

-- The trace of an input.
abbrev pub trace_of : RunEnvironment → List ℕ → Outcome
trace_of env input = form_outcome trace_form env nothing_noted input
