use Rattle.std.proofs.Common.{length, ap, ◌∙◌}
use Rattle.repo_plan.specs.Plan.{PlanState, wanted}
use Rattle.repo_plan.proofs.plan.Plan.wanted_count.Goals as goal

pub returns : goal.returns
returns c = c.self.invariant.counted.wanted ∙ ap (λ (p : PlanState). length (wanted p)) c.self.view_is
