use Rattle.fetch_board.specs.Seats.{IsSeatOf}
use Rattle.fetch_work.specs.Works.{Scans}
use Rattle.fetch_work.proofs.turns.scan.Given as goal

abbrev pub invariant-loop-item : goal.invariant-loop-item
invariant-loop-item g l = IsSeatOf l.board l.seat
    × Scans (g.T.Trial.packet_at l.trial) l.count l.board.tries l.from l.item l.initial.seat l.gave_back l.seat
