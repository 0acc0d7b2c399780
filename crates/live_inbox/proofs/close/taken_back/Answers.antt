use Rattle.crossbeam_queue.specs.Passes.{view}
use Rattle.live_inbox.proofs.Dealing.{returns_at}
use Rattle.live_inbox.proofs.Ending.{is_closing}
use Rattle.live_inbox.proofs.close.taken_back.Goals as goal

pub absorb-requires-clause-rule : goal.absorb-requires-clause-rule
absorb-requires-clause-rule g c =
    let v = view c.loop-port.place in
    returns_at c.loop-port.place.id c.port.inside.place.id c.port.inside.number v (view c.port.inside.place) _
    (is_closing _ _ _ _ _ v c.loop-port.invariant.1) c.port.invariant.1
