use Rattle.live_actors.proofs.Making.{Hears}
use Rattle.live_actors.proofs.actors.hear_some.Given as goal

abbrev pub invariant-loop-heard : goal.invariant-loop-heard
invariant-loop-heard g l =
    Hears l.member l._heard (g.P.Places.progress l.initial.places) (g.P.Places.progress l.places)
