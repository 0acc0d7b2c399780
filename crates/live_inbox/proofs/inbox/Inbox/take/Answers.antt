use Rattle.live_inbox.proofs.Moves.{takes_at, all_there_at}
use Rattle.live_inbox.proofs.Ending.{has_taken}
use Rattle.live_inbox.proofs.inbox.Inbox.take.Goals as goal
use Rattle.live_inbox.proofs.inbox.Inbox.take.Goals.{in-Some, in-None}

pub pop_as-requires-clause-rule : goal.pop_as-requires-clause-rule
pop_as-requires-clause-rule g c = (
  takes_at c.mouth.inside.place.id _ _ c.mouth.invariant.1,
  all_there_at c.mouth.inside.place.id _ _ c.mouth.invariant.1,
)

pub returns-clause-taken : goal.returns-clause-taken
returns-clause-taken g c = elim c.match-pop_as.branch [
  | in-Some w ↦ rw w.result-is (rw (← c.mouth.view_is)
      (has_taken _ _ _ w.in-Some.sent _ w.in-Some.ensures.queue.0 w.in-Some.ensures.rule))
  | in-None w ↦ rw w.result-is tt
]
