use Rattle.std.proofs.Common.{length, ap, ◌∙◌}
use Rattle.repo_plan.specs.Plan.{PlanState}
use Rattle.repo_mirror.specs.MirrorState.{MirrorState, fetch_plan}
use Rattle.repo_mirror.proofs.MirrorLemmas.{plan_is}
use Rattle.repo_mirror.proofs.mirror.Mirror.held_count.Goals as goal

pub returns : goal.returns
returns c =
    c.held_count.ensures
    ∙ ap (λ (p : PlanState). length p.held) (plan_is c.self.inside c.self.invariant)
    ∙ ap (λ (m : MirrorState). length (fetch_plan m).held) c.self.view_is
