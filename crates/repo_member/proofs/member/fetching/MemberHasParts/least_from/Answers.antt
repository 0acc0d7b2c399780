use Rattle.std.proofs.Common.{ap, ◌∙◌, subst}
use Rattle.repo_plan.specs.Plan.{PlanState, holds}
use Rattle.repo_plan.specs.Leaps.{IsLeastFrom}
use Rattle.repo_member.specs.MemberState.{member_plan}
use Rattle.repo_member.proofs.MemberLemmas.{plan_is}
use Rattle.repo_member.proofs.member.fetching.MemberHasParts.least_from.Goals as goal

pub returns : goal.returns
returns c =
    subst (λ (p : PlanState). IsLeastFrom (holds p) c.args.part c.least_from.result)
    (plan_is c.self.inside c.self.invariant ∙ ap member_plan c.self.view_is) c.least_from.ensures
