use Rattle.std.proofs.Common.{ap, ◌∙◌}
use Rattle.repo_plan.specs.Plan.{claim_of}
use Rattle.repo_holdings.specs.HoldingsState.{HoldingsState, held_plan}
use Rattle.repo_member.specs.MemberState.{MemberState, member_plan}
use Rattle.repo_member.proofs.MemberLemmas.{ended_claim}
use Rattle.repo_member.proofs.member.Member.gain_claimed.Goals as goal

pub gain-requires-clause-not_claimed : goal.gain-requires-clause-not_claimed
gain-requires-clause-not_claimed c =
    let claim =
    ap (λ (h : HoldingsState). claim_of (held_plan h) c.args.f) c.in_ok-reserve.ensures.ok
    ∙ ap (λ (a : MemberState). claim_of (member_plan a) c.args.f) c.self.view_is
    ∙ c.requires.claimed in
    (ended_claim c.release.result _ c.release.new.self c.args.f c.args.part c.release.ensures.busy
    c.release.ensures.free c.release.ensures.ok c.release.ensures.idle claim).0.not_claimed
