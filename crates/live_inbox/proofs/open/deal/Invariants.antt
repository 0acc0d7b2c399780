use Rattle.std.proofs.Common.{◌≡◌}
use Rattle.std.specs.List.{All}
use Rattle.crossbeam_queue.specs.Passes.{view, IsPassOf}
use Rattle.live_inbox.specs.Knowledge.{IsDealing}
use Rattle.live_inbox.specs.Ends.{fresh_ports}
use Rattle.live_inbox.proofs.open.deal.Given as goal

abbrev pub invariant-loop-number : goal.invariant-loop-number
invariant-loop-number g l =
    IsPassOf l.queue l.place
    × IsDealing l.ports l.number (view l.place)
    × (l.all.items ≡ fresh_ports l.queue.table.shared.table_id l.ports l.number)
    × All (λ port. port.inbox ≡ l.queue.table.shared.table_id) l.all.items
