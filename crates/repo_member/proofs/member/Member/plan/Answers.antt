use Rattle.std.proofs.Common.{take}
use Rattle.std.specs.List.{filter}
use Rattle.repo_plan.specs.Plan.{is_after, unclaimed}
use Rattle.repo_member.proofs.MemberLemmas.{jobs_are, if_ok_same}
use Rattle.repo_member.proofs.member.Member.plan.Goals as goal

pub returns : goal.returns
returns c =
    if_ok_same c.jobs.result (λ jobs. jobs.items) _ _
    (jobs_are c.args.g.now c.roster.result.now c.name.result.now c.roster.ensures.names c.name.ensures c.self.inside
    c.args.self.now c.self.invariant c.self.view_is
    (λ p. take c.args.most (filter (is_after c.args.after) (unclaimed p)))) c.jobs.ensures
