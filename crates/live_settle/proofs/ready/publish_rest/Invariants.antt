use Rattle.std.proofs.Common.{length}
use Rattle.live_settle.proofs.Publishing.{IsPublishingRest}
use Rattle.live_settle.proofs.ready.publish_rest.Given as goal

abbrev pub invariant-loop : goal.invariant-loop
invariant-loop g l = IsPublishingRest g.L.Lists.meaning l.fn.live l.live

abbrev pub decreases-loop : goal.decreases-loop
decreases-loop g l = length l.live.unpublished
