-- Scripts that differ in nothing but how many workers their lines ask for.
use Rattle.std.specs.Prelude.{ℕ, ◌≡◌, ◌≤◌, List, [], ◌∷◌, length, map, Option, Some, None, Result, Ok, Err}
use Rattle.script_lang.specs.Limits.{script_octets}
use Rattle.script_lang.specs.declared.line_fault.LineFault.{LineFault}
use Rattle.script_lang.specs.declared.verb.Verb.{Verb}
use Rattle.script_lang.specs.declared.verb.Verb.TheVariants as verb
use Rattle.script_lang.specs.Kinds.{Value, Text, Number}
use Rattle.script_lang.specs.Forms.{Stated, statement}
use Rattle.script_lang.specs.Lines.{line_of}
use Rattle.repo_io.specs.Lines.{lines}
use Rattle.script_story.specs.Evaluation.{RunEnvironment}
use Rattle.script_story.specs.ScriptRun.{run_of}

-- The values of a line, where its number of workers is replaced by 1.
abbrev pub with_one_worker : Verb → List Value → List Value
with_one_worker verb.Fetch (Text m ∷ Number workers ∷ Number tries ∷ Number loss ∷ []) =
    Text m ∷ Number 1 ∷ Number tries ∷ Number loss ∷ []
with_one_worker verb.Mfetch (Text l ∷ Number workers ∷ Number tries ∷ Number loss ∷ []) =
    Text l ∷ Number 1 ∷ Number tries ∷ Number loss ∷ []
with_one_worker verb.Settle (Number workers ∷ []) = Number 1 ∷ []
with_one_worker form values = values

-- What a line is read as, where its number of workers is replaced by 1.
abbrev pub but_for_workers : Result (Option Stated) LineFault → Result (Option Stated) LineFault
but_for_workers (Ok (Some line)) = Ok (Some (statement line.verb (with_one_worker line.verb line.values)))
but_for_workers (Ok None) = Ok None
but_for_workers (Err fault) = Err fault

-- Line by line two scripts are read as the same, except the numbers of workers in `fetch`, `mfetch` and `settle` lines.
abbrev pub DifferInWorkers : List (List ℕ) → List (List ℕ) → Type 0
DifferInWorkers a b = map (λ line. but_for_workers (line_of line)) a ≡ map (λ line. but_for_workers (line_of line)) b

-- Two inputs that differ only in numbers of workers, and have no more octets than a script may have, have the same run:
-- the same text, end and group.
abbrev pub WorkersMakeNoDifference : Type 0
WorkersMakeNoDifference = (env : RunEnvironment) (a b : List ℕ) → length a ≤ script_octets → length b ≤ script_octets
    → DifferInWorkers (lines a) (lines b) → run_of env a ≡ run_of env b
