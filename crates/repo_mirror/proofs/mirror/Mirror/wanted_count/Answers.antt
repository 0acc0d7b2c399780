use Rattle.std.proofs.Common.{length, ap, ◌∙◌}
use Rattle.repo_plan.specs.Plan.{PlanState, wanted}
use Rattle.repo_mirror.specs.MirrorState.{MirrorState, fetch_plan}
use Rattle.repo_mirror.proofs.MirrorLemmas.{plan_is}
use Rattle.repo_mirror.proofs.mirror.Mirror.wanted_count.Goals as goal

pub returns : goal.returns
returns c =
    c.wanted_count.ensures
    ∙ ap (λ (p : PlanState). length (wanted p)) (plan_is c.self.inside c.self.invariant)
    ∙ ap (λ (m : MirrorState). length (wanted (fetch_plan m))) c.self.view_is
