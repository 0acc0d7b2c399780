use Rattle.live_settle.proofs.Ending.{IsEnding}
use Rattle.live_settle.proofs.settling.all_ran.Given as goal

abbrev pub invariant-loop-live : goal.invariant-loop-live
invariant-loop-live g l = IsEnding g.L.Lists.meaning l.fn.lives.items l.rans.items l.live-iterator.rest.items
