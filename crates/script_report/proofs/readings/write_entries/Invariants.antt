use Rattle.std.proofs.Common.{length}
use Rattle.script_report.proofs.Together.{Writes, entries}
use Rattle.script_report.proofs.readings.write_entries.Given as goal

abbrev pub invariant-loop-label : goal.invariant-loop-label
invariant-loop-label l = Writes entries l.labels l.entries (length l.yielded) l.fn.out.items l.out.items
