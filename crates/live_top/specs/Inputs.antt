-- The result of reading an input's lines.
use Rattle.std.specs.Prelude.{◌≡◌, ⊤, ℕ, true, List, Option, IfSome}
use Rattle.std.specs.Io.KnownBytes.{IsAtEnd, Keeps, prepend_known}
use Rattle.repo_io.specs.Outside.{HasRisen}
use Rattle.repo_io.specs.declared.read_fault.ReadFault.{ReadFault}
use Rattle.repo_io.specs.declared.read_fault.ReadFault.TheVariants as fault
use Rattle.live_top.specs.declared.input.InputError.{InputError}
use Rattle.live_top.specs.declared.input.InputError.TheVariants as halt
use Rattle.live_script.specs.Evaluation.{Reached, is_of_live}
use Rattle.live_script.specs.declared.error.LineError.{LineError}
use Rattle.live_script.specs.declared.error.LineError.TheVariants as error
use Rattle.live_top.specs.Outcomes.{Outcome, Refused, Taken, outcome_of}

-- The input was read to its end, and all its lines were taken.
pub record IsRead (left rest : Option (List ℕ)) (r : Reached) : Type 0 where
  pub input : List ℕ
  pub read : Keeps left (prepend_known input rest)
  pub ended : IsAtEnd rest
  pub taken : outcome_of input ≡ Taken r

-- Taking the lines of an input with this outcome stops with this error: the first refusal, or memory ran out. No source
-- fails meanwhile.
abbrev pub Stops : Outcome → InputError → Type 0
Stops outcome halt.Failed = ⊥
Stops outcome (halt.Refused line why) = outcome ≡ Refused line why
Stops outcome halt.NoMemory = ⊤

-- Why nothing runs where the input could not be read.
abbrev pub halt_of : ReadFault → InputError
halt_of fault.Failed = halt.Failed
halt_of fault.NoMemory = halt.NoMemory

-- Why nothing runs where the line of this number isn't taken.
abbrev pub halt_at : ℕ → LineError → InputError
halt_at line (error.Refused why) = halt.Refused line why
halt_at line error.NoMemory = halt.NoMemory

-- Why reading an input halts. A line is the first of the whole input that is refused, however much of the input was
-- read, for a reason that a live group's input can have; or the source failed, or memory ran out. `left` is what is
-- left in the source before, and `old` and `new` count the source's faults before and after.
abbrev pub IsHaltedAt : Option (List ℕ) → (old new : ℕ) → InputError → Type 0
IsHaltedAt left old new halt.Failed = HasRisen old new
IsHaltedAt left old new (halt.Refused line why) =
    (is_of_live why ≡ true) × IfSome left (λ input. outcome_of input ≡ Refused line why)
IsHaltedAt left old new halt.NoMemory = ⊤
