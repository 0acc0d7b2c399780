use Rattle.live_actors.specs.ActorCalls.{Makes, tells}
use Rattle.live_actors.proofs.actors.tell_others.Given as goal

abbrev pub invariant-loop-other : goal.invariant-loop-other
invariant-loop-other g l =
    Makes (tells l.other l.member l.told) (g.P.Places.progress l.initial.places) (g.P.Places.progress l.places)
