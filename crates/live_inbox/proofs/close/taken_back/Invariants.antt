use Rattle.std.proofs.Common.{◌≡◌}
use Rattle.crossbeam_queue.specs.Passes.{view, IsPassOf}
use Rattle.live_inbox.specs.Ends.{knows_returned}
use Rattle.live_inbox.proofs.close.taken_back.Given as goal

abbrev pub invariant-loop-port : goal.invariant-loop-port
invariant-loop-port g l =
    IsPassOf l.queue l.place × (view l.place ≡ knows_returned l.yielded (view l.initial.place))
