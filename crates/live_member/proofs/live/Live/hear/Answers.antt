use Rattle.std.proofs.Common.{◌≡◌, ◌∙◌, ap, arith}
use Rattle.std.specs.Prelude.{slice_index}
use Rattle.live_member.proofs.HearSteps.{hear_after, hear_quiet}
use Rattle.live_member.proofs.Journals.{kept_on, steps_on}
use Rattle.live_member.proofs.live.Live.hear.Goals as goal

pub invariant_of-self-2 : goal.invariant_of-self-2
invariant_of-self-2 g c =
    let t = g.L.Lists.meaning in
    let a = c.self.inside.member in
    let journal = c.self.inside.journal.items in
    let unpublished = c.self.inside.unpublished.items in
    let kept = c.self.invariant in
    let value : c.self.inside.draw ≡ slice_index t.draws a.number =
    kept.its_draw ∙ ap (slice_index t.draws) kept.its_number in
    rw (
      c.push_reserved.ensures.items,
      c.in_ok-reserve.ensures.items,
      c.in_ok-reply.ensures.ok,
      c.in_ok-reply.ensures.reply,
      c.in_ok-octets.ensures,
      c.octets.ensures.same,
      c.requires,
    )
    (kept_on t g.row.M a _ journal unpublished _ _ (omega (arith, c.if-len.false, c.len.ensures))
    (hear_after t g.row.M a journal unpublished c.args.told.now c.self.inside.draw kept.live c.octets.ensures.told
    value)
    tt c.self.inside.number c.self.inside.draw kept
    (hear_quiet t g.row.M a journal unpublished c.args.told.now c.self.inside.draw kept.live c.octets.ensures.told
    value))

pub returns : goal.returns
returns g c =
    let t = g.L.Lists.meaning in
    let a = c.self.inside.member in
    let journal = c.self.inside.journal.items in
    let unpublished = c.self.inside.unpublished.items in
    let kept = c.self.invariant in
    let value : c.self.inside.draw ≡ slice_index t.draws a.number =
    kept.its_draw ∙ ap (slice_index t.draws) kept.its_number in
    rw (
      ← c.self.view_is,
      c.push_reserved.ensures.items,
      c.in_ok-reserve.ensures.items,
      c.in_ok-reply.ensures.ok,
      c.in_ok-reply.ensures.reply,
      c.in_ok-octets.ensures,
      c.octets.ensures.same,
      c.requires,
    )
    (steps_on t g.row.M a _ journal unpublished _ _ (omega (arith, c.if-len.false, c.len.ensures))
    (hear_after t g.row.M a journal unpublished c.args.told.now c.self.inside.draw kept.live c.octets.ensures.told
    value)
    tt c.self.inside.number c.self.inside.draw kept
    (hear_quiet t g.row.M a journal unpublished c.args.told.now c.self.inside.draw kept.live c.octets.ensures.told
    value))
