-- The picture of a script: an SVG sequence diagram with a column for each member and mirror, and a row for each line of
-- which something is to be seen.
use Rattle.std.specs.Prelude.{false, ℕ, List, [], Option, Some, None}
use Rattle.group_model.specs.World.{World}
use Rattle.script_story.specs.Evaluation.{RunEnvironment, State}
use Rattle.lab_text.specs.Outcomes.{Outcome}
use Rattle.lab_lines.specs.Folding.{FormOf, Lined, form_outcome}
use Rattle.lab_lines.specs.Transcript.{status_at}
use Rattle.lab_picture.specs.Drawn.{Drawn, nothing_drawn, picture, with_declared, with_event}

-- What is drawn after a line that was taken: with what is declared where there is no world yet, else with the line's
-- event.
abbrev pub with_world : Drawn → Lined → State → Option World → Drawn
with_world m at s None = with_declared m s.declared
with_world m at s (Some w) = with_event m at.number at.line at.report s.declared w s.mirrors

-- What is drawn after a line. A line that stops the script did nothing.
abbrev pub with_state : Drawn → Lined → Option State → Drawn
with_state m at None = m
with_state m at (Some s) = with_world m at s s.world

abbrev pub draw_form : FormOf Drawn
draw_form = record {
  note = λ m note. m;
  before = λ m state line. m;
  line = λ m at. with_state m at at.after;
  text = λ m at. [];
  end = λ m ending. record { text = picture m; status = status_at ending };
  reads_on = false;
}

-- The picture of an input.
abbrev pub draw_of : RunEnvironment → List ℕ → Outcome
draw_of env input = form_outcome draw_form env nothing_drawn input
