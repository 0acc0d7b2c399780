use Rattle.crossbeam_queue.specs.Passes.{view, IsPassOf}
use Rattle.live_inbox.proofs.Ending.{HasEmptied}
use Rattle.live_inbox.proofs.close.values_left.Given as goal

abbrev pub invariant-loop : goal.invariant-loop
invariant-loop g l = IsPassOf l.queue l.place × HasEmptied (view l.initial.place) l.values.items (view l.place)
