use Rattle.std.proofs.Common.{◌≤◌, ◌-◌}
use Rattle.script_story.specs.Evaluation.{env_by}
use Rattle.script_lines.specs.Scripts.{reached}
use Rattle.lab_lines.specs.Carrying.{CanGoOn, Carried, passed}
use Rattle.lab_text.specs.Limits.{most_lines}
use Rattle.lab_lines.specs.Written.{Known}
use Rattle.lab_lines.proofs.reading.run_lines.Given as goal

abbrev pub invariant-loop-count : goal.invariant-loop-count
invariant-loop-count g l = record {
  so_far : Known (g.S.Source.left l.fn.source) (g.S.Source.left l.source)
      (Carried g.F.Form.form (env_by (g.D.Draws.draw l.draws) (g.N.Net.passes l.net)) l.fn.form l.reader
      (passed l.totals (reached l.script)) l.form (g.K.Sink.out l.fn.sink) (g.K.Sink.out l.sink));
  goes_on : CanGoOn l.script l.totals;
  source : g.S.Source.faults l.fn.source ≤ g.S.Source.faults l.source;
  sink : g.K.Sink.faults l.fn.sink ≤ g.K.Sink.faults l.sink;
}

abbrev pub decreases-loop-count : goal.decreases-loop-count
decreases-loop-count g l = most_lines - l.totals.lines
