use Rattle.std.proofs.Common.{◌≡◌, ◌≤◌, ◌-◌, None}
use Rattle.script_story.specs.Evaluation.{env_by}
use Rattle.script_lines.specs.Scripts.{IsScript, reached}
use Rattle.repo_top.specs.Carrying.{Carried, Known}
use Rattle.repo_top.proofs.running.run_script.Given as goal

abbrev pub invariant-loop-count : goal.invariant-loop-count
invariant-loop-count g l = record {
  so_far : Known (g.S.Source.left l.fn.source) (g.S.Source.left l.source)
      (Carried (env_by (g.D.Draws.draw l.draws) (g.N.Net.passes l.net)) l.reader (reached l.script)
      (g.K.Sink.out l.fn.sink) (g.K.Sink.out l.sink));
  is : IsScript l.script;
  none : l.end ≡ None;
  source : g.S.Source.faults l.fn.source ≤ g.S.Source.faults l.source;
  sink : g.K.Sink.faults l.fn.sink ≤ g.K.Sink.faults l.sink;
}

abbrev pub decreases-loop-count : goal.decreases-loop-count
decreases-loop-count g l = 100000 - (reached l.script).lines
