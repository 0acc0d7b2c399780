use Rattle.std.proofs.Common.{length, ◌∙◌}
use Rattle.repo_member.proofs.MemberLemmas.{reading}
use Rattle.repo_member.proofs.member.Member.held_count.Goals as goal

pub returns : goal.returns
returns c =
    c.held_count.ensures ∙ reading (λ p. length p.held) c.self.inside c.args.self.now c.self.invariant c.self.view_is
