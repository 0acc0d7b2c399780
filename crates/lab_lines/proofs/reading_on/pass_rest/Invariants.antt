use Rattle.std.proofs.Common.{◌≤◌, ◌-◌, ◌+◌}
use Rattle.lab_text.specs.Limits.{most_octets}
use Rattle.lab_lines.specs.Written.{Known}
use Rattle.lab_lines.proofs.Rests.{Passing}
use Rattle.lab_lines.proofs.reading_on.pass_rest.Given as goal

abbrev pub invariant-loop-reader : goal.invariant-loop-reader
invariant-loop-reader g l = record {
  passing : Known (g.S.Source.left l.fn.source) (g.S.Source.left l.source)
      (Passing l.fn.totals l.totals l.fn.reader l.reader);
  source : g.S.Source.faults l.fn.source ≤ g.S.Source.faults l.source;
}

abbrev pub decreases-loop-reader : goal.decreases-loop-reader
decreases-loop-reader g l = most_octets + 1 - l.totals.octets
