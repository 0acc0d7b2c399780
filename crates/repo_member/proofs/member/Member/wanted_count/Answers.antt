use Rattle.std.proofs.Common.{length, ◌∙◌}
use Rattle.repo_plan.specs.Plan.{wanted}
use Rattle.repo_member.proofs.MemberLemmas.{reading}
use Rattle.repo_member.proofs.member.Member.wanted_count.Goals as goal

pub returns : goal.returns
returns c =
    c.wanted_count.ensures
    ∙ reading (λ p. length (wanted p)) c.self.inside c.args.self.now c.self.invariant c.self.view_is
