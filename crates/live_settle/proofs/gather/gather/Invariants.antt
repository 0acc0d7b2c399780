use Rattle.live_settle.specs.Ready.{at, missing_of}
use Rattle.live_settle.proofs.Passes.{HaveTurned}
use Rattle.live_settle.proofs.gather.gather.Given as goal

abbrev pub invariant-loop : goal.invariant-loop
invariant-loop g l = HaveTurned g.L.Lists.meaning l.j l.fn.lives l.lives

abbrev pub decreases-loop : goal.decreases-loop
decreases-loop g l = missing_of g.L.Lists.meaning (at l.lives l.j).state
