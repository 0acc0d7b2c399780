-- The result of words over an input, and what the call of the lab answers, reads and writes of that.
use Rattle.std.specs.Prelude.{◌≡◌, ◌↔◌, ⊤, ℕ, List, [], Option, Some, None, IfSome}
use Rattle.std.specs.Option.{option_map}
use Rattle.repo_io.specs.Outside.{GainsText}
use Rattle.lab_text.specs.declared.status.LabStatus.{LabStatus}
use Rattle.lab_text.specs.declared.status.LabStatus.TheVariants.{Done, Usage}
use Rattle.lab_text.specs.Outcomes.{Outcome}
use Rattle.lab_capture.specs.CaptureForm.{capture_form, capture_of, nothing_captured}
use Rattle.lab_lines.specs.Check.{check_of}
use Rattle.lab_lines.specs.Transcript.{transcript_form, transcript_of}
use Rattle.lab_lines.specs.Written.{Known, WritesLines}
use Rattle.lab_lint.specs.Linting.{lint_of}
use Rattle.lab_picture.specs.Drawn.{nothing_drawn}
use Rattle.lab_picture.specs.Pictures.{draw_form, draw_of}
use Rattle.lab_seeds.specs.Seeding.{seeds_of}
use Rattle.lab_seeds.specs.ScriptRuns.{given_of}
use Rattle.lab_trace.specs.Trace.{nothing_noted, trace_form, trace_of}
use Rattle.lab_top.specs.declared.asked.Asked.{Asked}
use Rattle.lab_top.specs.declared.asked.Asked.TheVariants.{Transcript, Trace, Check, Lint, Seeds, Capture, Draw}
use Rattle.lab_top.specs.Usage.{usage_text}

-- The result of a form over an input.
abbrev pub form_outcome : Asked → List ℕ → Outcome
form_outcome (Transcript seed) input = transcript_of (given_of seed) input
form_outcome (Trace seed) input = trace_of (given_of seed) input
form_outcome (Check seed) input = check_of (given_of seed) input
form_outcome Lint input = lint_of input
form_outcome (Seeds s) input = seeds_of s.first s.last input
form_outcome (Capture seed) input = capture_of (given_of seed) input
form_outcome (Draw seed) input = draw_of (given_of seed) input

-- The outcome of words that are no form: the usage text.
abbrev pub usage_outcome : Outcome
usage_outcome = record { text = usage_text; status = Usage }

-- The result of the words over an input, where it is known or not needed.
abbrev pub lab_outcome : Option Asked → Option (List ℕ) → Option Outcome
lab_outcome None input = Some usage_outcome
lab_outcome (Some asked) input = option_map (form_outcome asked) input

-- Whether the status is `Usage` depends on the words alone.
pub record UsageIsOfWords (asked : Option Asked) (status : LabStatus) (SameSource : Type 0)
    (old new : Option (List ℕ)) (SinkFailed : Type 0) : Type 0 where
  -- The status is `Usage` exactly where the words are no form.
  pub usage : (status ≡ Usage) ↔ (asked ≡ None)
  -- On `Usage` nothing is read.
  pub unread : status ≡ Usage → SameSource
  -- On `Usage` the usage text is written, unless the sink fails.
  pub written : status ≡ Usage → (SinkFailed → ⊥) → GainsText old new usage_text

-- What a form reads, and what it has written by then: a transcript, a trace and a capture are written line by line, a
-- picture at its end, and where all seeds are done the input was read to its end.
abbrev pub ReadsInput : Option Asked → (left rest old new : Option (List ℕ)) → LabStatus → Type 0
ReadsInput None left rest old new status = ⊤
ReadsInput (Some (Transcript seed)) left rest old new status =
    Known left rest (WritesLines transcript_form (given_of seed) (tt {0}) old new status)
ReadsInput (Some (Trace seed)) left rest old new status =
    Known left rest (WritesLines trace_form (given_of seed) nothing_noted old new status)
ReadsInput (Some (Check seed)) left rest old new status = ⊤
ReadsInput (Some Lint) left rest old new status = ⊤
ReadsInput (Some (Capture seed)) left rest old new status =
    Known left rest (WritesLines capture_form (given_of seed) nothing_captured old new status)
ReadsInput (Some (Draw seed)) left rest old new status =
    Known left rest (WritesLines draw_form (given_of seed) nothing_drawn old new status)
ReadsInput (Some (Seeds s)) left rest old new status = status ≡ Done → IfSome left (λ _. rest ≡ Some [])
