use Rattle.crossbeam_queue.specs.Passes.{view}
use Rattle.live_inbox.proofs.Ending.{closes}
use Rattle.live_inbox.proofs.inbox.Inbox.close.Goals as goal

pub returns : goal.returns
returns g c = record {
  left = closes
      (λ v. v.items) c.values_left.result c.args.ports.items c.args.mouth c.mouth.inside.place.me.0.client.dealt
      (view c.taken_back-place.result)
      (rw (← c.mouth.view_is) c.taken_back-place.ensures.mouth) c.values_left.ensures.left;
}
