use Rattle.live_inbox.specs.Ends.{IsMouthOf}
use Rattle.live_tests.proofs.inbox.take_some.Given as goal

abbrev pub invariant-loop : goal.invariant-loop
invariant-loop g l = IsMouthOf l.inbox l.mouth
