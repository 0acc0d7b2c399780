-- What a form of the lab makes of the lines of a script and of the notes between them.
use Rattle.std.specs.Prelude.{ℕ, ◌+◌, Bool, ◌&&◌, List, [], ◌∷◌, ◌++◌, length, Option, Some, None, nat_lt, nat_le}
use Rattle.std.specs.Prelude.{if◌then◌else◌}
use Rattle.script_lang.specs.Limits.{line_octets}
use Rattle.script_report.specs.declared.refusal.Refusal.TheVariants.{Limit}
use Rattle.script_report.specs.Refusals.{refusal_number, refusal_text}
use Rattle.script_report.specs.Texts.{foreign_text}
use Rattle.script_story.specs.declared.ending.Ending.{Ending}
use Rattle.script_story.specs.declared.ending.Ending.TheVariants as ending
use Rattle.script_story.specs.Evaluation.{RunEnvironment, State, Verdict, accepted, foreign, refused, not_evaluated}
use Rattle.script_story.specs.ScriptRun.{Reached, evaluated_next, nothing_reached, reached_after}
use Rattle.repo_io.specs.Lines.{lines}
use Rattle.lab_text.specs.Limits.{most_lines, most_octets}
use Rattle.lab_text.specs.LineTexts.{without_feed}
use Rattle.lab_text.specs.Notes.{is_note}
use Rattle.lab_text.specs.Transcripts.{shown_text}
use Rattle.lab_text.specs.Outcomes.{Outcome}

-- ---- a form

-- A line of the script that was carried out, or at which the script stops: its number among the script's lines, its
-- octets as they are shown, its report, and the state after it. At a line that stops the script the report is the
-- `refused` or `foreign` line, and there is no state after it.
pub record Lined : Type 0 where
  pub number : ℕ
  pub line : List ℕ
  pub report : List ℕ
  pub after : Option State

-- A line of the script with its number, its report and the state after it.
abbrev pub lined : ℕ → List ℕ → List ℕ → Option State → Lined
lined number line report after = record { number = number; line = line; report = report; after = after }

-- A form, which keeps a value from line to line.
pub record FormOf (M : Type 0) : Type 0 where
  -- What it keeps after a note.
  pub note : M → List ℕ → M
  -- What it keeps before a line of the script, by the state after the lines before it and by the line as it is shown.
  pub before : M → State → List ℕ → M
  -- What it keeps after a line of the script.
  pub line : M → Lined → M
  -- What it writes of a line of the script.
  pub text : M → Lined → List ℕ
  -- What it writes at the end, and its status.
  pub end : M → Ending → Outcome
  -- After a line that stops the script it reads the notes right after that line.
  pub reads_on : Bool

-- ---- the lines of an input

-- After `lines` lines and `octets` octets one more line is within these limits, and it isn't too long.
abbrev pub fits : ℕ → ℕ → List ℕ → Bool
fits lines octets line = nat_lt lines most_lines
    && (nat_le (octets + length line) most_octets && nat_le (length (without_feed line)) line_octets)

-- How many lines and octets of the input were passed, and the result of the script's lines among them.
pub record Passed : Type 0 where
  pub lines : ℕ
  pub octets : ℕ
  pub reached : Reached

-- Before the first line.
abbrev pub nothing_passed : Passed
nothing_passed = record { lines = 0; octets = 0; reached = nothing_reached }

-- What was passed, after one more note.
abbrev pub after_note : Passed → List ℕ → Passed
after_note p line = record { lines = p.lines + 1; octets = p.octets + length line; reached = p.reached }

-- What was passed, after one more line of the script, by its report and the state after it.
abbrev pub after_line : Passed → List ℕ → List ℕ → State → Passed
after_line p line report next = record {
  lines = p.lines + 1;
  octets = p.octets + length line;
  reached = reached_after p.reached line report next;
}

-- The next line is a note, or a line of the script with this verdict.
pub data NextLine : Type 0 where
  noted : NextLine
  scripted : Verdict → NextLine

-- A line beyond the limits is refused, a note too.
abbrev pub next_line : RunEnvironment → Passed → List ℕ → NextLine
next_line env p line =
    if fits p.lines p.octets line then (if is_note line then noted else scripted (evaluated_next env p.reached line))
    else scripted (refused Limit)

-- ---- a form over lines

-- What was written of lines, what the form keeps after them, how the script ends, and how many lines were read up to
-- its end.
pub record Ran (M : Type 0) : Type 0 where
  pub text : List ℕ
  pub form : M
  pub ending : Ending
  pub read : ℕ

-- A text, and then what was written after it.
abbrev pub with_text : {M : Type 0} → List ℕ → Ran M → Ran M
with_text text ran = record { text = text ++ ran.text; form = ran.form; ending = ran.ending; read = ran.read }

-- What a form keeps after the notes at the beginning of these lines, where `passed` lines and `octets` octets of the
-- input were passed before them.
unfoldable pub after_notes : {M : Type 0} → FormOf M → (passed octets : ℕ) → M → List (List ℕ) → M
after_notes f passed octets m [] = m
after_notes f passed octets m (line ∷ others) =
    if fits passed octets line && is_note line
    then after_notes f (passed + 1) (octets + length line) (f.note m line) others
    else m

-- What a form keeps after the script stopped, where these lines follow: a form that reads on takes the notes at their
-- beginning, and another one reads nothing more.
abbrev pub after_stop : {M : Type 0} → FormOf M → (passed octets : ℕ) → M → List (List ℕ) → M
after_stop f passed octets m others = if f.reads_on then after_notes f passed octets m others else m

-- The result of a form where the script stops at `line`.
abbrev pub stops : {M : Type 0} → FormOf M → Passed → M → List ℕ → List (List ℕ) → Lined → Ending → Ran M
stops f p m line others at ending = record {
  text = f.text m at;
  form = after_stop f (p.lines + 1) (p.octets + length line) (f.line m at) others;
  ending = ending;
  read = p.lines + 1;
}

-- A line that was taken, with its report and the state after it.
abbrev pub taken_line : Passed → List ℕ → List ℕ → State → Lined
taken_line p line report next = lined (p.reached.lines + 1) (shown_text line) report (Some next)

-- A line at which the script stops, and its report.
abbrev pub stopping_line : Passed → List ℕ → List ℕ → Lined
stopping_line p line report = lined (p.reached.lines + 1) (shown_text line) report None

-- The result of a form over a line of the script with this verdict, and over the lines after it. A line that no row
-- evaluates would end the script as refused under 0, which is the number of no refusal.
abbrev pub ran_scripted : {M : Type 0} → FormOf M → (Passed → M → Ran M) → Passed → M → List ℕ → List (List ℕ) → Verdict
    → Ran M
ran_scripted f go p m line others (accepted report next) =
    with_text (f.text m (taken_line p line report next))
    (go (after_line p line report next) (f.line m (taken_line p line report next)))
ran_scripted f go p m line others (refused why) =
    stops f p m line others (stopping_line p line (refusal_text (p.reached.lines + 1) why))
    (ending.Refused (p.reached.lines + 1) (refusal_number why))
ran_scripted f go p m line others foreign =
    stops f p m line others (stopping_line p line (foreign_text (p.reached.lines + 1)))
    (ending.Foreign (p.reached.lines + 1))
ran_scripted f go p m line others not_evaluated =
    stops f p m line others (stopping_line p line []) (ending.Refused (p.reached.lines + 1) 0)

-- What a form keeps before a line of the script.
abbrev pub looked : {M : Type 0} → FormOf M → Passed → M → List ℕ → M
looked f p m line = f.before m p.reached.state (shown_text line)

-- The result of a form over a line, and over the lines after it.
abbrev pub ran_line : {M : Type 0} → FormOf M → (Passed → M → Ran M) → Passed → M → List ℕ → List (List ℕ) → NextLine
    → Ran M
ran_line f go p m line others noted = go (after_note p line) (f.note m line)
ran_line f go p m line others (scripted verdict) = ran_scripted f go p (looked f p m line) line others verdict

-- The result of a form over lines that follow the lines that were passed.
unfoldable pub ran_from : {M : Type 0} → FormOf M → RunEnvironment → Passed → M → List (List ℕ) → Ran M
ran_from f env p m [] = record { text = []; form = m; ending = ending.Done; read = p.lines }
ran_from f env p m (line ∷ others) =
    ran_line f (λ next form. ran_from f env next form others) p m line others (next_line env p line)

-- The result of a form over all lines.
abbrev pub ran_over : {M : Type 0} → FormOf M → RunEnvironment → M → List (List ℕ) → Ran M
ran_over f env m input_lines = ran_from f env nothing_passed m input_lines

-- The outcome of a form: the text of the lines and that of the end, and the status.
abbrev pub outcome_of : {M : Type 0} → FormOf M → Ran M → Outcome
outcome_of f ran = record {
  text = ran.text ++ (f.end ran.form ran.ending).text;
  status = (f.end ran.form ran.ending).status;
}

-- The outcome of a form over an input.
abbrev pub form_outcome : {M : Type 0} → FormOf M → RunEnvironment → M → List ℕ → Outcome
form_outcome f env m input = outcome_of f (ran_over f env m (lines input))
