use Rattle.live_inbox.proofs.Moves.{puts_at, stands_after_at}
use Rattle.live_inbox.proofs.inbox.Inbox.put.Goals as goal

pub push_as-requires-clause-rule : goal.push_as-requires-clause-rule
push_as-requires-clause-rule g c = (
  puts_at _ c.port.inside.place.id c.port.inside.number _ c.args.value c.port.invariant.1,
  stands_after_at c.port.inside.place.id c.port.inside.number _ c.port.invariant.1,
)
