use Rattle.std.proofs.Common.{rules, refl, ap, ◌∙◌}
use Rattle.bench_world.specs.EventValues.{ReportValue, insert_report}
use Rattle.bench_world.proofs.world.World.insert.Goals as goal

pub returns : goal.returns
returns c = record {
  taken = refl;
  world = search rules;
  report =
      ap (λ k. ReportValue.Insert c.args.m k c.in-Ok.answer.process c.in-Ok.answer.inserted c.in-Ok.answer.deleted)
      c.from.ensures
      ∙ ap (insert_report c.args.m) c.in-Ok.ensures.issued.answer;
  joined = tt;
  steps = c.in-Ok.ensures.issued.steps;
  keys = c.in-Ok.ensures.issued.keys;
  mirrors = c.in-Ok.ensures.issued.mirrors;
  refused = tt;
  err = tt;
}
