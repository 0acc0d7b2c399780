use Rattle.live_settle.proofs.Hearings.{one_more_heard}
use Rattle.live_settle.proofs.Passes.{one_heard}
use Rattle.live_settle.proofs.Places.{ready_still}
use Rattle.live_settle.proofs.hearing.hear_others.Goals as goal

pub hear_one-requires-clause-ready : goal.hear_one-requires-clause-ready
hear_one-requires-clause-ready g c =
    let is = c.loop-p.invariant.0 in
    ready_still c.args.j c.args.lives.now c.loop-p.lives is.only g.L.Lists.meaning c.requires.there c.requires.ready
    is.ready

pub loop-p-preserved : goal.loop-p-preserved
loop-p-preserved g c =
    let t = g.L.Lists.meaning in
    let is = c.loop-p.invariant in
    let h = c.in_ok-hear_one.ensures in (
      one_heard t c.args.j c.loop-p.p c.args.lives.now c.loop-p.lives c.hear_one.new.lives is.0 h.hears,
      one_more_heard t c.args.j c.loop-p.p c.args.lives.now c.loop-p.lives c.hear_one.new.lives is.1 is.0.only
          h.heard.itself h.heard.heard,
    )
