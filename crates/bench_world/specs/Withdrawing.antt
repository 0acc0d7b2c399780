-- Why a withdrawal is not carried out.
use Rattle.repo_member.specs.declared.refusals.WithdrawRefusal.{WithdrawRefusal}
use Rattle.repo_member.specs.declared.refusals.WithdrawRefusal.TheVariants.{NoSuchNumber, NumbersSpent, NoMemory}
use Rattle.bench_world.specs.declared.event.EventError.{EventError}
use Rattle.bench_world.specs.declared.event.EventError.TheVariants as fault

-- The error of a withdrawal, by the reason for which its member refuses it.
abbrev pub withdraw_fault : WithdrawRefusal → EventError
withdraw_fault (NoSuchNumber seq) = fault.NoSuchNumber
withdraw_fault (NumbersSpent log) = fault.NumbersSpent
withdraw_fault NoMemory = fault.NoMemory
