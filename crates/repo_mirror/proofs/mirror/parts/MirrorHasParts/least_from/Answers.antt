use Rattle.std.proofs.Common.{ap, ◌∙◌, subst}
use Rattle.repo_plan.specs.Plan.{PlanState, holds}
use Rattle.repo_plan.specs.Leaps.{IsLeastFrom}
use Rattle.repo_mirror.specs.MirrorState.{fetch_plan}
use Rattle.repo_mirror.proofs.MirrorLemmas.{plan_is}
use Rattle.repo_mirror.proofs.mirror.parts.MirrorHasParts.least_from.Goals as goal

pub returns : goal.returns
returns c =
    subst (λ (p : PlanState). IsLeastFrom (holds p) c.args.part c.least_from.result)
    (plan_is c.self.inside c.self.invariant ∙ ap fetch_plan c.self.view_is) c.least_from.ensures
