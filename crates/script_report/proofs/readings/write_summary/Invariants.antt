use Rattle.std.proofs.Common.{◌≡◌, ◌++◌, drop, map, string_bytes}
use Rattle.script_report.specs.Texts.{summary_text}
use Rattle.script_report.specs.Pieces.{KeepsPrefix}
use Rattle.script_report.proofs.readings.write_summary.Given as goal

abbrev pub invariant-loop-i : goal.invariant-loop-i
invariant-loop-i l = record {
  written : l.out.items ++ summary_text (map string_bytes (drop l.i l.labels)) (drop l.i l.entries)
      (drop l.i l.segments) (drop l.i l.octets)
      ≡ l.fn.out.items ++ summary_text (map string_bytes l.labels) l.entries l.segments l.octets;
  kept : KeepsPrefix l.fn.out.items l.out.items;
}
