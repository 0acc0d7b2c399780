use Rattle.std.proofs.Common.{refl, arith}
use Rattle.live_member.proofs.ClaimSteps.{claim_after, claim_quiet}
use Rattle.live_member.proofs.Journals.{kept_on, steps_on}
use Rattle.live_member.proofs.live.Live.claim.Goals as goal

pub invariant_of-self-2 : goal.invariant_of-self-2
invariant_of-self-2 g c =
    let t = g.L.Lists.meaning in
    let a = c.self.inside.member in
    let live = c.self.invariant.live in
    rw (
      c.push_reserved.ensures.items,
      c.in_ok-reserve.ensures.items,
      c.claimed-reply.ensures.new,
      c.claimed-reply.ensures.reply,
    )
    (kept_on t g.row.M a _ c.self.inside.journal.items c.self.inside.unpublished.items _ _
    (omega (arith, c.if-len.false, c.len.ensures)) (claim_after t a c.args.f live.logs live.consistent _ refl) tt
    c.self.inside.number c.self.inside.draw c.self.invariant
    (claim_quiet t a c.args.f live.logs live.consistent _ refl))

pub returns : goal.returns
returns g c =
    let t = g.L.Lists.meaning in
    let a = c.self.inside.member in
    let live = c.self.invariant.live in
    rw (
      ← c.self.view_is,
      c.push_reserved.ensures.items,
      c.in_ok-reserve.ensures.items,
      c.claimed-reply.ensures.new,
      c.claimed-reply.ensures.reply,
    )
    (steps_on t g.row.M a _ c.self.inside.journal.items c.self.inside.unpublished.items _ _
    (omega (arith, c.if-len.false, c.len.ensures)) (claim_after t a c.args.f live.logs live.consistent _ refl) tt
    c.self.inside.number c.self.inside.draw c.self.invariant
    (claim_quiet t a c.args.f live.logs live.consistent _ refl))
