use Rattle.std.proofs.Common.{◌≡◌, Option, Some, sym, ◌∙◌, subst}
use Rattle.std.specs.Prelude.{IfSome}
use Rattle.repo_plan.specs.declared.part.Part.{Part}
use Rattle.repo_plan.specs.Plan.{claim_of}
use Rattle.repo_member.specs.MemberState.{member_plan, want_of}
use Rattle.repo_member.specs.Outcomes.{IsCheckedFor}
use Rattle.repo_member.proofs.MemberLemmas.{reading}
use Rattle.repo_member.proofs.OutcomeLemmas.{arrives}
use Rattle.repo_member.proofs.member.Member.accept_checked.Goals as goal

pub gain_claimed-requires-clause-arrival : goal.gain_claimed-requires-clause-arrival
gain_claimed-requires-clause-arrival c =
    let claim : claim_of (member_plan c.args.self.now) c.args.f ≡ Some c.in-Some.part =
    sym (reading (λ p. claim_of p c.args.f) c.self.inside c.args.self.now c.self.invariant c.self.view_is)
    ∙ sym c.claimed.ensures.claim ∙ c.in-Some.is in
    let checked =
    subst (λ (o : Option Part). IfSome o
    (λ part. IsCheckedFor c.args.g.now (want_of c.args.g.now c.args.self.now.store part) c.args.checked.now)) claim
    c.requires.checked in
    arrives c.args.g.now c.args.self.now c.in-Some.part c.args.checked.now _ _ checked.same
    c.in_ok-arrival.ensures.arrival
