-- The statuses that a run answers.
use Rattle.std.specs.Prelude.{ℕ, ⊤}
use Rattle.repo_io.specs.declared.status.Status.{Status}
use Rattle.repo_io.specs.declared.status.Status.TheVariants.{Done, Usage, Refused, ReadFault, WriteFault, NoMemory}
use Rattle.repo_io.specs.declared.status.Status.TheVariants.{Foreign}

-- The statuses of a run over lines that came to an end: all were taken, or one stopped it.
abbrev pub IsEndOfRun : Status → Type 0
IsEndOfRun Done = ⊤
IsEndOfRun Usage = ⊥
IsEndOfRun (Refused line number) = ⊤
IsEndOfRun ReadFault = ⊥
IsEndOfRun WriteFault = ⊥
IsEndOfRun NoMemory = ⊥
IsEndOfRun (Foreign line) = ⊤

-- The exit status of a program whose run ended so.
abbrev pub exit_code : Status → ℕ
exit_code Done = 0
exit_code Usage = 1
exit_code (Refused line number) = 2
exit_code ReadFault = 3
exit_code WriteFault = 4
exit_code NoMemory = 5
exit_code (Foreign line) = 6
