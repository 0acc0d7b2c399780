-- Why a line isn't taken, by the fault of the call that carries it out.
use Rattle.std.specs.Prelude.{ℕ, List, []}
use Rattle.script_lang.specs.declared.line_fault.LineFault.{LineFault}
use Rattle.script_lang.specs.declared.line_fault.LineFault.TheVariants as line_fault
use Rattle.script_lang.specs.declared.check_fault.CheckFault.{CheckFault}
use Rattle.script_lang.specs.declared.check_fault.CheckFault.TheVariants as check_fault
use Rattle.repo_watch.specs.declared.watchers.TakeFault.{TakeFault}
use Rattle.repo_watch.specs.declared.watchers.TakeFault.TheVariants as take_fault
use Rattle.repo_watch.specs.declared.watchers.WatchFault.{WatchFault}
use Rattle.repo_watch.specs.declared.watchers.WatchFault.TheVariants as watch_fault
use Rattle.bench_world.specs.declared.event.EventError.{EventError}
use Rattle.bench_world.specs.declared.event.EventError.TheVariants as step_fault
use Rattle.script_report.specs.declared.refusal.Refusal.TheVariants as refusal
use Rattle.script_report.specs.Refusals.{refusal_number, refusal_text}
use Rattle.script_report.specs.Texts.{foreign_text}
use Rattle.repo_io.specs.declared.status.Status.{Status}
use Rattle.repo_io.specs.declared.status.Status.TheVariants as status
use Rattle.script_lines.specs.declared.error.LineError.{LineError}
use Rattle.script_lines.specs.declared.error.LineError.TheVariants.{Refused, Foreign, NoMemory}

-- Why a line isn't taken where its octets can't be read as a line.
abbrev pub line_fault_error : LineFault → LineError
line_fault_error line_fault.Syntax = Refused refusal.Syntax
line_fault_error line_fault.Limit = Refused refusal.Limit
line_fault_error line_fault.NoMemory = NoMemory

-- Why a line isn't taken where what the lines before it declared forbids it.
abbrev pub check_line_error : CheckFault → LineError
check_line_error check_fault.NoGroup = Refused refusal.NoGroup
check_line_error check_fault.Late = Refused refusal.Late
check_line_error check_fault.UnknownLabel = Refused refusal.UnknownLabel
check_line_error check_fault.Duplicate = Refused refusal.Duplicate
check_line_error check_fault.Limit = Refused refusal.Limit
check_line_error check_fault.TooLarge = Refused refusal.TooLarge
check_line_error check_fault.NoMemory = NoMemory

-- Why a line isn't taken where one more watcher can't be added.
abbrev pub watch_stop : WatchFault → LineError
watch_stop watch_fault.Full = Refused refusal.Limit
watch_stop watch_fault.NoMemory = NoMemory

-- Why a line isn't taken where news can't be reported to a watcher.
abbrev pub take_stop : TakeFault → LineError
take_stop take_fault.NoSuchWatch = Refused refusal.NoSuchWatch
take_stop take_fault.NoMemory = NoMemory

-- Why a line isn't taken where its event is refused.
abbrev pub step_line_error : EventError → LineError
step_line_error step_fault.NoSuchPacket = Refused refusal.NoSuchPacket
step_line_error step_fault.FetcherBusy = Refused refusal.FetcherBusy
step_line_error step_fault.FetcherIdle = Refused refusal.FetcherIdle
step_line_error step_fault.NumbersSpent = Refused refusal.NumbersSpent
step_line_error step_fault.NoSuchNumber = Refused refusal.NoSuchNumber
step_line_error step_fault.Foreign = Foreign
step_line_error step_fault.NoMemory = NoMemory

-- ---- its report

-- The status of a run that stops for this reason at the line of this number.
abbrev pub line_error_status : ℕ → LineError → Status
line_error_status line (Refused why) = status.Refused line (refusal_number why)
line_error_status line Foreign = status.Foreign line
line_error_status line NoMemory = status.NoMemory

-- The text that is written where a run stops for this reason at the line of this number.
abbrev pub line_error_text : ℕ → LineError → List ℕ
line_error_text line (Refused why) = refusal_text line why
line_error_text line Foreign = foreign_text line
line_error_text line NoMemory = []
