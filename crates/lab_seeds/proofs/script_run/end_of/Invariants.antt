use Rattle.std.proofs.Common.{drop}
use Rattle.bench_net.specs.Keystream.{seeded_draw, seeded_passes}
use Rattle.script_story.specs.Evaluation.{env_by}
use Rattle.script_lines.specs.Scripts.{IsScript, reached}
use Rattle.lab_seeds.specs.Reading.{lines_read, octets_of}
use Rattle.lab_seeds.proofs.RunEnds.{Carries}
use Rattle.lab_seeds.proofs.script_run.end_of.Given as goal

abbrev pub invariant-loop-line : goal.invariant-loop-line
invariant-loop-line g l = record {
  so_far : Carries (env_by (seeded_draw l.seeded) (seeded_passes l.seeded)) (lines_read l.script)
      (octets_of (drop l.line-index l.script.lines.items)) (reached l.state);
  is : IsScript l.state;
}
