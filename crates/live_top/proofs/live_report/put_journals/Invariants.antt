use Rattle.std.proofs.Common.{length, map, string_bytes}
use Rattle.script_report.proofs.Together.{Writes}
use Rattle.live_top.proofs.PrintedMembers.{journals}
use Rattle.live_top.proofs.live_report.put_journals.Given as goal

abbrev pub invariant-loop-own : goal.invariant-loop-own
invariant-loop-own l =
    Writes (journals (map string_bytes l.labels)) l.labels l.rans (length l.yielded) l.fn.text.items l.text.items
