-- Why a line isn't taken, by the fault of the call that takes it, and how that agrees with the verdict on the line.
use Rattle.std.specs.Prelude.{◌≡◌, ⊤}
use Rattle.script_lang.specs.declared.line_fault.LineFault.{LineFault}
use Rattle.script_lang.specs.declared.line_fault.LineFault.TheVariants as line_fault
use Rattle.script_lang.specs.declared.check_fault.CheckFault.{CheckFault}
use Rattle.script_lang.specs.declared.check_fault.CheckFault.TheVariants as check_fault
use Rattle.repo_member.specs.declared.group_fault.GroupFault.{GroupFault}
use Rattle.repo_member.specs.declared.group_fault.GroupFault.TheVariants as group_fault
use Rattle.script_report.specs.declared.refusal.Refusal.TheVariants as refusal
use Rattle.live_script.specs.declared.error.LineError.{LineError}
use Rattle.live_script.specs.declared.error.LineError.TheVariants.{Refused, NoMemory}
use Rattle.live_script.specs.Evaluation.{Verdict, refused}

-- Why a line isn't taken where its octets can't be read as a line.
abbrev pub line_fault_error : LineFault → LineError
line_fault_error line_fault.Syntax = Refused refusal.Syntax
line_fault_error line_fault.Limit = Refused refusal.Limit
line_fault_error line_fault.NoMemory = NoMemory

-- Why a line isn't taken where what the lines before it declared forbids it.
abbrev pub check_line_error : CheckFault → LineError
check_line_error check_fault.NoGroup = Refused refusal.NoGroup
check_line_error check_fault.Late = Refused refusal.Late
check_line_error check_fault.UnknownLabel = Refused refusal.UnknownLabel
check_line_error check_fault.Duplicate = Refused refusal.Duplicate
check_line_error check_fault.Limit = Refused refusal.Limit
check_line_error check_fault.TooLarge = Refused refusal.TooLarge
check_line_error check_fault.NoMemory = NoMemory

-- Why a line isn't taken where the group doesn't take its member.
abbrev pub group_stop : GroupFault → LineError
group_stop group_fault.Duplicate = Refused refusal.Duplicate
group_stop group_fault.Full = Refused refusal.Limit
group_stop group_fault.NoMemory = NoMemory

-- Memory ran out, or the verdict on the line is this refusal.
abbrev pub IsLineError : Verdict → LineError → Type 0
IsLineError verdict (Refused why) = verdict ≡ refused why
IsLineError verdict NoMemory = ⊤
