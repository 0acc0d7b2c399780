use Rattle.std.proofs.Common.{ℕ, max, length, sym, ap, ◌∙◌, subst}
use Rattle.repo_holdings.specs.HoldingsState.{HoldingsState, held_plan, with_known_up_to}
use Rattle.repo_holdings.specs.NewPublications.{IsNew}
use Rattle.repo_member.specs.MemberState.{MemberState}
use Rattle.repo_member.proofs.OwnLemmas.{next_is_new}
use Rattle.repo_member.proofs.member.Member.publish_prepared.Goals as goal

pub publish_parts-requires-clause-new : goal.publish_parts-requires-clause-new
publish_parts-requires-clause-new c =
    let number = c.self.inside.number in
    let log : ℕ = length c.args.self.now.log in
    subst (λ (n : ℕ). IsNew (held_plan c.raise.new.self) (number, n)) (sym c.next_seq-seq.ensures)
    (next_is_new c.self.inside c.raise.new.self _ log c.self.invariant c.cite_soundness.ensures
    (sym (ap (λ (a : MemberState). length a.log) c.self.view_is))
    (c.raise.ensures
    ∙ ap (λ (h : HoldingsState). with_known_up_to number c.next_seq-seq.result h) c.in-Ok-reserve.ensures.ok
    ∙ ap (λ (n : ℕ). with_known_up_to number n
    (record c.self.inside.held { spare = max c.self.inside.held.spare c.len.result })) c.next_seq-seq.ensures))
