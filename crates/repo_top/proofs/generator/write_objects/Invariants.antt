use Rattle.std.proofs.Common.{◌≡◌, ◌≤◌}
use Rattle.repo_io.specs.Outside.{GainsText}
use Rattle.repo_top.specs.Generator.{object_text, generator_state, texts}
use Rattle.repo_top.proofs.generator.write_objects.Given as goal

abbrev pub invariant-loop-before : goal.invariant-loop-before
invariant-loop-before g l = record {
  so_far : GainsText (g.K.Sink.out l.fn.sink) (g.K.Sink.out l.sink)
      (texts (object_text l.measures.members l.measures.seed) l.before);
  state : l.state ≡ generator_state l.measures.seed l.before;
  faults : g.K.Sink.faults l.fn.sink ≤ g.K.Sink.faults l.sink;
}
