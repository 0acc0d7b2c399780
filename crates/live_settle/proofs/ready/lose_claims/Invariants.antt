use Rattle.live_settle.proofs.Publishing.{IsLosing}
use Rattle.live_settle.proofs.ready.lose_claims.Given as goal

abbrev pub invariant-loop-earlier : goal.invariant-loop-earlier
invariant-loop-earlier g l = IsLosing g.L.Lists.meaning l.earlier l.fn.live l.live
