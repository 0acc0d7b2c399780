use Rattle.std.proofs.Common.{◌≡◌, ℕ, List, ◌<◌, ◌≤◌, ◌-◌}
use Rattle.fetch_board.specs.Seats.{IsSeatOf, seen_of}
use Rattle.fetch_board.specs.Answers.{after_looks}
use Rattle.fetch_board.proofs.board.Board.claim.Given as goal

abbrev pub invariant-loop-ended : goal.invariant-loop-ended
invariant-loop-ended g l = IsSeatOf l.self l.seat
    × ((ends : List ℕ) × (l.seat ≡ after_looks l.item ends l.initial.seat)) × (l.attempt < 16)
    × (l.attempt ≤ seen_of l.item l.seat)

abbrev pub decreases-loop-ended : goal.decreases-loop-ended
decreases-loop-ended g l = 16 - l.attempt
