use Rattle.live_actors.specs.ActorCalls.{Fetches}
use Rattle.live_actors.proofs.actors.fetch.Given as goal

abbrev pub invariant-loop-turn : goal.invariant-loop-turn
invariant-loop-turn g l =
    Fetches l.member l.f l._turn (g.P.Places.progress l.initial.places) (g.P.Places.progress l.places)
