use Rattle.std.proofs.Common.{length, ap, ◌∙◌}
use Rattle.repo_plan.specs.Plan.{PlanState}
use Rattle.repo_plan.proofs.plan.Plan.held_count.Goals as goal

pub returns : goal.returns
returns c = c.self.invariant.counted.held ∙ ap (λ (p : PlanState). length p.held) c.self.view_is
