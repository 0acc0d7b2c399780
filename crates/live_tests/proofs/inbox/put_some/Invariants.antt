use Rattle.live_inbox.specs.Ends.{IsPortOf}
use Rattle.live_tests.proofs.inbox.put_some.Given as goal

abbrev pub invariant-loop : goal.invariant-loop
invariant-loop g l = IsPortOf l.inbox l.port
