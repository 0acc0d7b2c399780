use Rattle.std.proofs.Common.{◌-◌, ◌≤◌, length}
use Rattle.std.specs.Io.KnownBytes.{Keeps, prepend_known}
use Rattle.repo_io.proofs.reading.read_up_to.Given as goal

abbrev pub invariant-loop-octets : goal.invariant-loop-octets
invariant-loop-octets g l = record {
  taken : Keeps (g.S.Source.left l.fn.source) (prepend_known l.octets.items (g.S.Source.left l.source));
  room : length l.octets.items ≤ l.most;
  faults : g.S.Source.faults l.fn.source ≤ g.S.Source.faults l.source;
}

abbrev pub decreases-loop-octets : goal.decreases-loop-octets
decreases-loop-octets g l = l.most - length l.octets.items
