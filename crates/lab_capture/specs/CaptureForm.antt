-- The capture of a script: the frames of its lines, in order.
use Rattle.std.specs.Prelude.{ℕ, Bool, true, false, List, [], ◌++◌, Option, Some, None, if◌then◌else◌}
use Rattle.script_story.specs.Evaluation.{RunEnvironment, State}
use Rattle.lab_text.specs.Outcomes.{Outcome}
use Rattle.lab_lines.specs.Folding.{FormOf, form_outcome}
use Rattle.lab_lines.specs.Transcript.{status_at}
use Rattle.lab_capture.specs.Captures.{Framed, capture_head}
use Rattle.lab_capture.specs.Frames.{Known, frames_text, known_before, line_frames, nothing_known}
use Rattle.lab_capture.specs.Replies.{line_replies}

-- Whether the head was written, and what is known before the next line.
pub record Captured : Type 0 where
  pub begun : Bool
  pub known : Known

-- What is kept before the first line.
abbrev pub nothing_captured : Captured
nothing_captured = record { begun = false; known = nothing_known }

-- The head is written with the first line, or at the end of a script without lines.
abbrev pub head_once : Bool → List ℕ
head_once begun = if begun then [] else capture_head

-- The frames of a line, if it was taken: a command and its reply, which are read in the line's report, and its other
-- frames.
abbrev pub taken_frames : Known → List ℕ → List ℕ → Option State → List Framed
taken_frames known line report None = []
taken_frames known line report (Some after) = line_replies after line report ++ line_frames after known line

-- The form of a capture.
abbrev pub capture_form : FormOf Captured
capture_form = record {
  note = λ c note. c;
  before = λ c state line. record c { known = known_before state line };
  line = λ c at. record c { begun = true };
  text = λ c at. head_once c.begun ++ frames_text (taken_frames c.known at.line at.report at.after);
  end = λ c ending. record { text = head_once c.begun; status = status_at ending };
  reads_on = false;
}

-- The capture of an input.
abbrev pub capture_of : RunEnvironment → List ℕ → Outcome
capture_of env input = form_outcome capture_form env nothing_captured input
