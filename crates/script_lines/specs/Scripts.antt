-- A script whose lines are carried out one by one.
use Rattle.std.specs.Prelude.{◌≤◌}
use Rattle.script_lang.specs.Limits.{script_lines, script_octets}
use Rattle.script_report.specs.Limits.{report_octets}
use Rattle.script_lines.specs.declared.script.Script.{Script}
use Rattle.script_lines.specs.RunStates.{IsRunState, state_of_run, steps}
use Rattle.script_story.specs.ScriptRun.{Reached}

-- The state after the lines so far.
abbrev pub reached : Script → Reached
reached s = record { lines = s.lines; octets = s.octets; printed = s.printed; state = state_of_run s.run_state }

-- What is kept is what the lines so far declare and do, each line made at most one step, and all is within the limits.
pub record IsScript (s : Script) : Type 0 where
  pub run_state : IsRunState s.run_state
  pub steps : steps s.run_state ≤ s.lines
  pub lines : s.lines ≤ script_lines
  pub octets : s.octets ≤ script_octets
  pub printed : s.printed ≤ report_octets
