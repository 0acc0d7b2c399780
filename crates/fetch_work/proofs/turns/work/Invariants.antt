use Rattle.std.proofs.Common.{◌≡◌, ◌*◌, ◌-◌, length}
use Rattle.fetch_board.specs.Seats.{IsSeatOf}
use Rattle.fetch_work.specs.Works.{Works}
use Rattle.fetch_work.proofs.turns.work.Given as goal

abbrev pub invariant-loop-count : goal.invariant-loop-count
invariant-loop-count g l = IsSeatOf l.board l.seat × (l.seat.shares ≡ l.initial.seat.shares)
    × Works (g.T.Trial.packet_at l.trial) l.count l.board.tries l.seat

abbrev pub decreases-loop-count : goal.decreases-loop-count
decreases-loop-count g l = l.count * l.board.tries - length l.seat.tried
