use Rattle.std.proofs.Common.{◌≤◌, ◌-◌}
use Rattle.lab_seeds.specs.Reading.{AreWithin, Known, octets_of}
use Rattle.lab_seeds.proofs.ScriptReading.{Reads}
use Rattle.lab_seeds.proofs.input.read_lines.Given as goal

abbrev pub invariant-loop-so_far : goal.invariant-loop-so_far
invariant-loop-so_far g l = record {
  so_far : Known (g.S.Source.left l.fn.source) (g.S.Source.left l.source)
      (Reads l.reader (octets_of l.so_far.lines.items) l.so_far.totals);
  within : AreWithin l.so_far.totals;
  source : g.S.Source.faults l.fn.source ≤ g.S.Source.faults l.source;
}

abbrev pub decreases-loop-so_far : goal.decreases-loop-so_far
decreases-loop-so_far g l = 1000000 - l.so_far.totals.lines
