-- What was taken of an input when a form of the lab ended, and what was written by then.
use Rattle.std.specs.Prelude.{◌≡◌, ◌≢◌, ◌≤◌, ⊤, ℕ, ◌+◌, ◌-◌, Bool, false, ◌||◌, List, [], length, take, Option, Some}
use Rattle.std.specs.Prelude.{None, nat_lt}
use Rattle.std.specs.List.{concat, filter}
use Rattle.std.specs.Option.{option_map}
use Rattle.script_lang.specs.Limits.{line_octets}
use Rattle.script_story.specs.declared.ending.Ending.TheVariants as ending
use Rattle.script_story.specs.Evaluation.{RunEnvironment}
use Rattle.repo_io.specs.Lines.{has_feed, lines}
use Rattle.repo_io.specs.Outside.{GainsText}
use Rattle.lab_text.specs.declared.status.LabStatus.{LabStatus}
use Rattle.lab_text.specs.declared.status.LabStatus.TheVariants.{ReadFault, Usage}
use Rattle.lab_text.specs.Outcomes.{HasCause, IsEnd, WritesOutcome}
use Rattle.lab_lines.specs.Folding.{FormOf, form_outcome, ran_over}

-- `P` holds of an input and of its unread octets, where both are known.
abbrev pub Known : Option (List ℕ) → Option (List ℕ) → (List ℕ → List ℕ → Type 0) → Type 0
Known None now P = ⊤
Known (Some input) None P = ⊥
Known (Some input) (Some rest) P = P input rest

-- The octets that were taken of `input`, of which `rest` is unread.
abbrev pub taken : List ℕ → List ℕ → List ℕ
taken input rest = take (length input - length rest) input

-- A line that can be evaluated: its line feed is there, or it is too long, whatever follows.
abbrev pub can_be_evaluated : List ℕ → Bool
can_be_evaluated line = has_feed line || nat_lt line_octets (length line)

-- The lines of these octets that can be evaluated.
abbrev pub lines_so_far : List ℕ → List (List ℕ)
lines_so_far octets = filter can_be_evaluated (lines octets)

-- Where the first `count` lines end, as a number of octets.
abbrev pub end_of_lines : ℕ → List ℕ → ℕ
end_of_lines count input = length (concat (take count (lines input)))

-- At most 65,536 octets past the end of the first `count` lines were taken.
abbrev pub IsTakenNear : ℕ → List ℕ → List ℕ → Type 0
IsTakenNear count input rest = length input ≤ length rest + (end_of_lines count input + 65536)

-- A form writes line by line.
pub record WritesLines {M : Type 0} (f : FormOf M) (env : RunEnvironment) (form : M) (old new : Option (List ℕ))
    (status : LabStatus) (input rest : List ℕ) : Type 0 where
  -- After `ReadFault` all was written that the form writes of the lines that were taken whole.
  pub exact_after_read_fault : status ≡ ReadFault
      → GainsText old new (ran_over f env form (lines_so_far (taken input rest))).text
  -- Where a script is done, the input was read to its end.
  pub read_to_end : IsEnd status → (ran_over f env form (lines input)).ending ≡ ending.Done → rest ≡ []
  -- Unless the form reads on, at most 65,536 octets are taken past the end of the line that stops the script.
  pub bounded : IsEnd status → f.reads_on ≡ false
      → IsTakenNear (ran_over f env form (lines input)).read input rest

-- A form carried out the script of `input`, of which `rest` is unread: what was written, what was answered, and when.
pub record CarriesOut {M : Type 0} (f : FormOf M) (env : RunEnvironment) (form : M)
    (input rest old new : Option (List ℕ)) (SourceFailed SinkFailed : Type 0) (status : LabStatus) : Type 0 where
  -- What was written is what the form makes of the input, and the status is its status, where source and sink know
  -- their octets. Whatever the status, what was written is a prefix of that text.
  pub writes : WritesOutcome (option_map (form_outcome f env form) input) old new status
  -- The other answers have their causes. Memory may run out at any time.
  pub causes : HasCause (option_map (form_outcome f env form) input) status SourceFailed SinkFailed
  pub never_usage : status ≢ Usage
  -- Where the source fails, all was written that the form writes of the lines before; and little is read past the line
  -- that stops the script.
  pub lines : Known input rest (WritesLines f env form old new status)
