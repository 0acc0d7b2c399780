-- What a form of the lab writes and answers over an input, and what its call promises of that.
use Rattle.std.specs.Prelude.{◌≡◌, ◌⊎◌, ℕ, ⊤, List, Option, IfSome}
use Rattle.repo_io.specs.Outside.{GainsText, GainsPrefix}
use Rattle.lab_text.specs.declared.status.LabStatus.{LabStatus}
use Rattle.lab_text.specs.declared.status.LabStatus.TheVariants.{Done, Usage, Refused, ReadFault, WriteFault, NoMemory}
use Rattle.lab_text.specs.declared.status.LabStatus.TheVariants.{Foreign, Differs}

-- The exit status of the lab.
abbrev pub exit_code : LabStatus → ℕ
exit_code Done = 0
exit_code Usage = 1
exit_code Refused = 2
exit_code ReadFault = 3
exit_code WriteFault = 4
exit_code NoMemory = 5
exit_code Foreign = 6
exit_code Differs = 7

-- The text of a form over an input, and its status.
pub record Outcome : Type 0 where
  pub text : List ℕ
  pub status : LabStatus

-- The statuses of a form that wrote its text to the end.
abbrev pub IsEnd : LabStatus → Type 0
IsEnd Done = ⊤
IsEnd Usage = ⊥
IsEnd Refused = ⊤
IsEnd ReadFault = ⊥
IsEnd WriteFault = ⊥
IsEnd NoMemory = ⊥
IsEnd Foreign = ⊤
IsEnd Differs = ⊤

-- What was written is of this outcome, where source and sink know their octets.
pub record WritesOutcome (outcome : Option Outcome) (old new : Option (List ℕ)) (status : LabStatus) : Type 0 where
  -- At the end of its text the status is the outcome's,
  pub end : IsEnd status → IfSome outcome (λ it. status ≡ it.status)
  -- and what was written is its text.
  pub text : IsEnd status → IfSome outcome (λ it. GainsText old new it.text)
  -- Whatever comes, what was written is a prefix of that text, and after `WriteFault` not the whole of it.
  pub prefix : IfSome outcome (λ it. GainsPrefix old new it.text (status ≡ WriteFault))

-- The other answers have their causes. Memory may run out at any time.
pub record HasCause (outcome : Option Outcome) (status : LabStatus) (SourceFailed SinkFailed : Type 0) : Type 0 where
  -- `ReadFault` comes only where the source failed, and `WriteFault` only where the sink did.
  pub read_fault : status ≡ ReadFault → SourceFailed
  pub write_fault : status ≡ WriteFault → SinkFailed
  -- Where nothing fails, the outcome's status comes, unless memory runs out.
  pub complete : (SourceFailed → ⊥) → (SinkFailed → ⊥)
      → IfSome outcome (λ it. (status ≡ it.status) ⊎ (status ≡ NoMemory))
