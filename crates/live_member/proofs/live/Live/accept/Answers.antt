use Rattle.std.proofs.Common.{◌∙◌, ap, sym, arith, subst}
use Rattle.repo_member.specs.Groups.{GroupKeys}
use Rattle.repo_member.specs.Verdicts.{accept_verdict}
use Rattle.live_member.specs.Reports.{IsLoan, loan}
use Rattle.live_member.proofs.AcceptSteps.{passes, accept_after, accept_quiet}
use Rattle.live_member.proofs.Journals.{kept_on, steps_on}
use Rattle.live_member.proofs.live.Live.accept.Goals as goal

pub accepted-requires-clause-passes : goal.accepted-requires-clause-passes
accepted-requires-clause-passes g c is =
    let t = g.L.Lists.meaning in
    let a = c.self.inside.member in
    let lent : IsLoan t (loan c.part-part.result c.octets.result.now) =
    subst (IsLoan t) (λ i. loan (sym c.part-part.ensures.part i) (sym c.octets.ensures i)) c.part-part.ensures.lent in
    ap (λ (k : GroupKeys). accept_verdict k a c.args.f c.octets.result.now) c.requires.group
    ∙ passes t g.row.M a c.self.inside.journal.items c.self.inside.unpublished.items c.args.f c.part-part.result
    c.octets.result.now c.self.invariant.live lent.packet is

pub invariant_of-self-2 : goal.invariant_of-self-2
invariant_of-self-2 g c =
    let t = g.L.Lists.meaning in
    let a = c.self.inside.member in
    let journal = c.self.inside.journal.items in
    let unpublished = c.self.inside.unpublished.items in
    let live = c.self.invariant.live in
    let part = c.part-part.result in
    let octets = c.octets.result.now in
    let lent : IsLoan t (loan part octets) =
    subst (IsLoan t) (λ i. loan (sym c.part-part.ensures.part i) (sym c.octets.ensures i)) c.part-part.ensures.lent in
    rw (
      c.push_reserved.ensures.items,
      c.in_ok-reserve.ensures.items,
      c.in_ok-reply.ensures.ok,
      c.in_ok-reply.ensures.reply,
    )
    (kept_on t g.row.M a _ journal unpublished _ _ (omega (arith, c.if-len.false, c.len.ensures))
    (accept_after t g.row.M a journal unpublished c.args.f part octets live lent.packet) lent.published
    c.self.inside.number
    c.self.inside.draw c.self.invariant
    (accept_quiet t g.row.M a journal unpublished c.args.f part octets live lent.packet))

pub returns : goal.returns
returns g c =
    let t = g.L.Lists.meaning in
    let a = c.self.inside.member in
    let journal = c.self.inside.journal.items in
    let unpublished = c.self.inside.unpublished.items in
    let live = c.self.invariant.live in
    let part = c.part-part.result in
    let octets = c.octets.result.now in
    let lent : IsLoan t (loan part octets) =
    subst (IsLoan t) (λ i. loan (sym c.part-part.ensures.part i) (sym c.octets.ensures i)) c.part-part.ensures.lent in
    rw (
      ← c.self.view_is,
      ← c.part-part.ensures.part,
      c.push_reserved.ensures.items,
      c.in_ok-reserve.ensures.items,
      c.in_ok-reply.ensures.ok,
      c.in_ok-reply.ensures.reply,
    )
    (steps_on t g.row.M a _ journal unpublished _ _ (omega (arith, c.if-len.false, c.len.ensures))
    (accept_after t g.row.M a journal unpublished c.args.f part octets live lent.packet) lent.published
    c.self.inside.number
    c.self.inside.draw c.self.invariant
    (accept_quiet t g.row.M a journal unpublished c.args.f part octets live lent.packet))
