-- The run of a script: the text of its report, its end, and the group after its last line.
use Rattle.std.specs.Prelude.{◌≡◌, ℕ, ◌+◌, Bool, ◌&&◌, List, [], ◌∷◌, ◌++◌, length, Option, None, nat_lt, nat_le}
use Rattle.std.specs.Prelude.{if◌then◌else◌}
use Rattle.script_lang.specs.Limits.{script_lines, script_octets}
use Rattle.script_report.specs.Limits.{report_octets}
use Rattle.script_report.specs.Texts.{foreign_text}
use Rattle.group_model.specs.World.{World}
use Rattle.repo_member.specs.Groups.{GroupKeys}
use Rattle.script_story.specs.declared.ending.Ending.{Ending}
use Rattle.script_story.specs.declared.ending.Ending.TheVariants.{Done, Refused, Foreign}
use Rattle.script_report.specs.declared.refusal.Refusal.{Refusal}
use Rattle.script_report.specs.declared.refusal.Refusal.TheVariants.{Limit, TooLarge}
use Rattle.script_report.specs.Refusals.{refusal_number, refusal_text}
use Rattle.repo_io.specs.Lines.{lines}
use Rattle.script_story.specs.Mirrors.{Mirroring}
use Rattle.script_story.specs.Evaluation.{RunEnvironment, State, Verdict, no_group, initial_state, evaluated, accepted}
use Rattle.script_story.specs.Evaluation.{foreign}
use Rattle.script_story.specs.Evaluation.{not_evaluated}
use Rattle.script_story.specs.Evaluation as verdict

-- ---- the state after the lines so far

-- How many lines and octets were taken, how many octets their reports have, and what they declared and did.
pub record Reached : Type 0 where
  pub lines : ℕ
  pub octets : ℕ
  pub printed : ℕ
  pub state : State

-- Before the first line.
abbrev pub nothing_reached : Reached
nothing_reached = record { lines = 0; octets = 0; printed = 0; state = initial_state }

-- What is reached after `r` and one more line, by the line's report and the state after it.
abbrev pub reached_after : Reached → List ℕ → List ℕ → State → Reached
reached_after r line report next = record {
  lines = r.lines + 1;
  octets = r.octets + length line;
  printed = r.printed + length report;
  state = next;
}

-- ---- the next line

-- A script has at most `script_lines` lines and `script_octets` octets. A line feed belongs to the line that it ends.
abbrev pub is_within_script : Reached → List ℕ → Bool
is_within_script r line = nat_lt r.lines script_lines && nat_le (r.octets + length line) script_octets

-- A report has at most `report_octets` octets, those of a `refused` or `foreign` line not counted.
abbrev pub within_report : Reached → Verdict → Verdict
within_report r (accepted report next) =
    if nat_le (r.printed + length report) report_octets then accepted report next else verdict.refused TooLarge
within_report r (verdict.refused why) = verdict.refused why
within_report r foreign = foreign
within_report r not_evaluated = not_evaluated

-- The verdict on the next line.
abbrev pub evaluated_next : RunEnvironment → Reached → List ℕ → Verdict
evaluated_next env r line =
    if is_within_script r line then within_report r (evaluated env r.state line) else verdict.refused Limit

-- ---- the whole

-- The text of a report, how the script ends, and after the last line that was taken the names and keys of the group,
-- its world once there was an event, and its mirrors.
pub record ScriptRun : Type 0 where
  pub text : List ℕ
  pub ending : Ending
  pub keys : GroupKeys
  pub world : Option World
  pub mirrors : List Mirroring

-- A text, and then a run.
abbrev pub after_text : List ℕ → ScriptRun → ScriptRun
after_text text s = record s { text = text ++ s.text }

-- A run that ends here, with this text.
abbrev pub ended : State → List ℕ → Ending → ScriptRun
ended s text ending =
    record { text = text; ending = ending; keys = s.keys; world = s.world; mirrors = s.mirrors }

-- The run of a line with this verdict and of the lines after it. A line that is refused or foreign ends the run. A line
-- that no row evaluates would end it as refused under 0, which is the number of no refusal.
abbrev pub run_of_line : (Reached → ScriptRun) → Reached → List ℕ → Verdict → ScriptRun
run_of_line others r line (accepted report next) = after_text report (others (reached_after r line report next))
run_of_line others r line (verdict.refused why) =
    ended r.state (refusal_text (r.lines + 1) why) (Refused (r.lines + 1) (refusal_number why))
run_of_line others r line foreign = ended r.state (foreign_text (r.lines + 1)) (Foreign (r.lines + 1))
run_of_line others r line not_evaluated = ended r.state [] (Refused (r.lines + 1) 0)

-- The run of lines that follow the lines of `r`.
unfoldable pub run_from : RunEnvironment → Reached → List (List ℕ) → ScriptRun
run_from env r [] = ended r.state [] Done
run_from env r (line ∷ others) =
    run_of_line (λ next. run_from env next others) r line (evaluated_next env r line)

-- The run of an input.
abbrev pub run_of : RunEnvironment → List ℕ → ScriptRun
run_of env input = run_from env nothing_reached (lines input)

-- The run of what is no script: there is no group in it.
abbrev pub plain_run : List ℕ → Ending → ScriptRun
plain_run text ending = record { text = text; ending = ending; keys = no_group; world = None; mirrors = [] }

-- The run of an input whose first line is refused.
abbrev pub refused : Refusal → ScriptRun
refused why = plain_run (refusal_text 1 why) (Refused 1 (refusal_number why))

-- The script's report is this text, and the script has this ending.
pub record Reports (env : RunEnvironment) (script text : List ℕ) (ending : Ending) : Type 0 where
  pub text_is : (run_of env script).text ≡ text
  pub ending_is : (run_of env script).ending ≡ ending
