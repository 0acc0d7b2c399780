use Rattle.live_settle.proofs.Publishing.{nothing_yet, one_published}
use Rattle.live_settle.proofs.ready.publish_rest.Goals as goal

pub loop-init : goal.loop-init
loop-init g c = nothing_yet g.L.Lists.meaning c.args.live.now c.requires.live c.requires.room

pub loop-preserved-in-Told : goal.loop-preserved-in-Told
loop-preserved-in-Told g c =
    one_published g.L.Lists.meaning c.args.live.now c.loop.live c.publish_next.new.self c.in-Told.field-0
    c.loop.invariant (rw c.in-Told.is at c.in_ok-publish_next.ensures)
