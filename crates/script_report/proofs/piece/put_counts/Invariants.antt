use Rattle.std.proofs.Common.{length}
use Rattle.script_report.proofs.Together.{Writes, counts}
use Rattle.script_report.proofs.piece.put_counts.Given as goal

abbrev pub invariant-loop-label : goal.invariant-loop-label
invariant-loop-label l = Writes counts l.labels l.numbers (length l.yielded) l.fn.out.items l.out.items
