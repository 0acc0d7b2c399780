use Rattle.std.proofs.Common.{◌-◌, ◌≤◌, length, take}
use Rattle.repo_io.specs.Outside.{GainsText}
use Rattle.repo_io.proofs.writing.write_whole.Given as goal

abbrev pub invariant-loop-written : goal.invariant-loop-written
invariant-loop-written g l = record {
  room : l.written ≤ length l.text;
  so_far : GainsText (g.K.Sink.out l.fn.sink) (g.K.Sink.out l.sink) (take l.written l.text);
  faults : g.K.Sink.faults l.fn.sink ≤ g.K.Sink.faults l.sink;
}

abbrev pub decreases-loop-written : goal.decreases-loop-written
decreases-loop-written g l = length l.initial.text - l.written
