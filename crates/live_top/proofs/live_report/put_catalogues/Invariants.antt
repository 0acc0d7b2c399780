use Rattle.std.proofs.Common.{length, map, string_bytes}
use Rattle.script_report.proofs.Together.{Writes}
use Rattle.live_top.proofs.PrintedMembers.{catalogues}
use Rattle.live_top.proofs.live_report.put_catalogues.Given as goal

abbrev pub invariant-loop-own : goal.invariant-loop-own
invariant-loop-own l =
    Writes (catalogues (map string_bytes l.labels)) l.labels l.rans (length l.yielded) l.fn.text.items l.text.items
