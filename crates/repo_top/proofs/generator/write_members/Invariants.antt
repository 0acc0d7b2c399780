use Rattle.std.proofs.Common.{◌≤◌}
use Rattle.repo_io.specs.Outside.{GainsText}
use Rattle.repo_top.specs.Generator.{member_text, texts}
use Rattle.repo_top.proofs.generator.write_members.Given as goal

abbrev pub invariant-loop-before : goal.invariant-loop-before
invariant-loop-before g l = record {
  so_far : GainsText (g.K.Sink.out l.fn.sink) (g.K.Sink.out l.sink) (texts member_text l.before);
  faults : g.K.Sink.faults l.fn.sink ≤ g.K.Sink.faults l.sink;
}
