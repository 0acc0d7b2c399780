use Rattle.std.proofs.Common.{◌≤◌, length, sym, ap, ◌∙◌, subst}
use Rattle.std.specs.Prelude.{slice_index}
use Rattle.repo_member.specs.MemberState.{MemberState}
use Rattle.repo_member.proofs.MemberLemmas.{learns_is, still_wide}
use Rattle.repo_member.proofs.member.Member.hear_vector.Goals as goal

pub invariant_of-self : goal.invariant_of-self
invariant_of-self c =
    learns_is c.self.inside c.args.received.now _ _ _ c.self.invariant
    (c.requires.width ∙ sym (ap (λ (a : MemberState). length a.known) c.self.view_is))
    (subst (λ (a : MemberState). slice_index c.args.received.now a.number ≤ length a.log) (sym c.self.view_is)
    c.requires.own)
    c.learn.ensures.vector c.learn.ensures.held (still_wide _ _ _ _ _ _ c.heard-mode.ensures.kept)
