use Rattle.live_actors.proofs.Making.{Rounds}
use Rattle.live_actors.proofs.actors.publish.Given as goal

abbrev pub invariant-loop-round : goal.invariant-loop-round
invariant-loop-round g l = Rounds l.member (g.P.Places.progress l.initial.places) (g.P.Places.progress l.places)
