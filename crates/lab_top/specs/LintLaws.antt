-- What lint writes of a script, beside how a run of it ends.
use Rattle.std.specs.Prelude.{◌≡◌, ℕ, ◌+◌, true, false, List, [], ◌∷◌, ◌++◌, length, None, Some, Ok}
use Rattle.std.specs.List.{list_any}
use Rattle.script_lang.specs.Forms.{Stated}
use Rattle.script_lang.specs.Lines.{line_of}
use Rattle.script_lang.specs.Checking.{Declared, after_line}
use Rattle.script_report.specs.Refusals.{refusal_number}
use Rattle.repo_io.specs.Lines.{lines}
use Rattle.script_story.specs.declared.ending.Ending.TheVariants as ending
use Rattle.script_story.specs.Evaluation as story
use Rattle.script_story.specs.Evaluation.{RunEnvironment}
use Rattle.script_story.specs.ScriptRun.{Reached, evaluated_next, run_of, within_report}
use Rattle.script_story.specs.Headline.{AreTakenFirst}
use Rattle.lab_text.specs.Notes.{is_note}
use Rattle.lab_lint.specs.Findings.{Finding, finding_text}
use Rattle.lab_lint.specs.Linting.{Passed, after_refused, evaluated, fits, line_refused, line_taken, lint_from}
use Rattle.lab_lint.specs.Linting.{nothing_passed, with_text}

-- The result of lint after the lines with which a run reaches `r`, none of which is a note.
abbrev pub passed_at : Reached → Passed
passed_at r = record {
  lines = r.lines;
  octets = r.octets;
  number = r.lines;
  taken = r.lines;
  script = r.octets;
  declared = r.state.declared;
}

-- A run takes these lines first, none of which is a note, and reaches `r`.
pub record TakesFirst (env : RunEnvironment) (first reports : List (List ℕ)) (r : Reached) : Type 0 where
  pub taken : AreTakenFirst env first reports r
  pub plain : list_any is_note first ≡ false

-- Of lines that a run takes lint writes nothing.
abbrev pub TakenLinesAreClean : Type 0
TakenLinesAreClean = (env : RunEnvironment) (first reports : List (List ℕ)) (r : Reached)
    → TakesFirst env first reports r → (others : List (List ℕ))
    → lint_from nothing_passed (first ++ others) ≡ lint_from (passed_at r) others

-- The run of a script of these lines ends at the line `line` with the finding's refusal, and what lint writes of them
-- begins with the finding.
pub record EndsAt (env : RunEnvironment) (first : List (List ℕ)) (line : List ℕ) (others : List (List ℕ)) (r : Reached)
    (f : Finding) : Type 0 where
  pub run : (input : List ℕ) → lines input ≡ first ++ line ∷ others
      → (run_of env input).ending ≡ ending.Refused (length first + 1) (refusal_number f.why)
  pub lint : lint_from nothing_passed (first ++ line ∷ others)
      ≡ with_text (finding_text (length first + 1) f) (lint_from (after_refused (passed_at r) line) others)

-- Where lint refuses the line after those that a run takes, the run ends there.
abbrev pub RefusedLinesEndRuns : Type 0
RefusedLinesEndRuns = (env : RunEnvironment) (first reports : List (List ℕ)) (r : Reached)
    → TakesFirst env first reports r → (line : List ℕ) (others : List (List ℕ)) (f : Finding) → is_note line ≡ false
    → fits (passed_at r) line ≡ true → evaluated (passed_at r) line ≡ line_refused f
    → EndsAt env first line others r f

-- A run takes the line, which states nothing; or carries out what it states, after which `d` is declared.
pub data IsCarriedOut (env : RunEnvironment) (r : Reached) (line : List ℕ) (d : Declared) : Type 0 where
  nothing : line_of line ≡ Ok None → evaluated_next env r line ≡ within_report r (story.accepted [] r.state)
      → IsCarriedOut env r line d
  stating : (stated : Stated) → line_of line ≡ Ok (Some stated) → after_line r.state.declared stated ≡ Ok d
      → evaluated_next env r line ≡ within_report r (story.line_taken env r.state d stated)
      → IsCarriedOut env r line d

-- A line that lint doesn't refuse is one that a run carries out: what ends the run there is the state of the group, or
-- the length of the report.
abbrev pub OtherLinesAreCarriedOut : Type 0
OtherLinesAreCarriedOut = (env : RunEnvironment) (r : Reached) (line : List ℕ) (d : Declared)
    → evaluated (passed_at r) line ≡ line_taken d → IsCarriedOut env r line d
