use Rattle.std.proofs.Common.{rules, refl, ap, ◌∙◌}
use Rattle.repo_command.specs.declared.command.Command.TheVariants.{Check}
use Rattle.group_model.specs.Steps.{command_answer}
use Rattle.bench_world.specs.Worlds.{world_of}
use Rattle.bench_world.specs.EventValues.{ReportValue, status_report}
use Rattle.bench_world.proofs.world.World.status.Goals as goal

pub returns : goal.returns
returns c = record {
  taken = refl;
  world = search rules;
  report =
      ap (λ k. ReportValue.Status c.args.m k c.in-Ok.answer.process c.in-Ok.answer.inserted c.in-Ok.answer.deleted)
      c.from-2.ensures
      ∙ ap (status_report c.args.m) c.in-Ok.ensures.issued.answer
      ∙ ap (λ k. status_report c.args.m (command_answer (world_of c.args.self.now) c.args.m (Check k)))
      c.from.ensures;
  joined = tt;
  steps = c.in-Ok.ensures.issued.steps;
  keys = c.in-Ok.ensures.issued.keys;
  mirrors = c.in-Ok.ensures.issued.mirrors;
  refused = tt;
  err = tt;
}
