-- Calls that an implementation noted, as the list of an actor's calls.
use Rattle.live_actors.specs.ActorCalls.{Call}
use Rattle.live_actors.specs.declared.noted.Noted.{Noted}
use Rattle.live_actors.specs.declared.noted.Noted.TheVariants as noted

-- A call that was noted.
abbrev pub call_of : {L : Type 0} → Noted L → Call
call_of (noted.Pass member actor) = Call.Pass member actor
call_of (noted.Publish member told) = Call.Publish member told.value
call_of (noted.Tell other told) = Call.Tell other told.value
call_of (noted.Take told) = Call.Take told.value
call_of (noted.Hear member told replied) = Call.Hear member told.value replied
call_of (noted.Claim member f claimed) = Call.Claim member f claimed
call_of (noted.Lend publisher part lent) = Call.Lend publisher part lent.value
call_of (noted.Accept member f lent ended) = Call.Accept member f lent.value ended
call_of (noted.Lose member f ended) = Call.Lose member f ended
