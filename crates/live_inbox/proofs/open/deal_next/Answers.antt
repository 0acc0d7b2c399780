use Rattle.crossbeam_queue.specs.Passes.{view}
use Rattle.live_inbox.proofs.Dealing.{deals_at}
use Rattle.live_inbox.proofs.open.deal_next.Goals as goal

pub another-place-requires-clause-rule : goal.another-place-requires-clause-rule
another-place-requires-clause-rule g c = deals_at _ c.args.place.now.id c.args.number
    (view c.args.place.now) c.requires.number c.requires.mouth
