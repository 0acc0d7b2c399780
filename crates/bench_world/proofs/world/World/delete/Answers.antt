use Rattle.std.proofs.Common.{rules, refl, ap, ◌∙◌}
use Rattle.repo_command.specs.declared.command.Command.TheVariants.{Delete}
use Rattle.group_model.specs.Steps.{command_answer}
use Rattle.bench_world.specs.Worlds.{world_of}
use Rattle.bench_world.specs.EventValues.{ReportValue, delete_report}
use Rattle.bench_world.proofs.world.World.delete.Goals as goal

pub returns : goal.returns
returns c = record {
  taken = refl;
  world = search rules;
  report =
      ap (λ k. ReportValue.Delete c.args.m k c.in-Ok.answer.process c.in-Ok.answer.inserted c.in-Ok.answer.deleted)
      c.from.ensures
      ∙ ap (delete_report c.args.m) c.in-Ok.ensures.issued.answer
      ∙ ap (λ n. delete_report c.args.m (command_answer (world_of c.args.self.now) c.args.m (Delete n)))
      c.in_ok-clone.ensures.cases;
  joined = tt;
  steps = c.in-Ok.ensures.issued.steps;
  keys = c.in-Ok.ensures.issued.keys;
  mirrors = c.in-Ok.ensures.issued.mirrors;
  refused = tt;
  err = tt;
}
