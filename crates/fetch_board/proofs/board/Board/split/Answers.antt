use Rattle.std.proofs.Common.{arith, ◌<◌}
use Rattle.fetch_board.specs.Seats.{IsSeatOf}
use Rattle.fetch_board.proofs.Opened.{at_fields}
use Rattle.fetch_board.proofs.Seats.{splits_kept}
use Rattle.fetch_board.proofs.board.Board.split.Goals as goal

pub split_seat-inner-requires : goal.split_seat-inner-requires
split_seat-inner-requires g c =
    let laid = c.self.invariant in (
      (at_fields c.seat.view_is c.self.view_is IsSeatOf c.requires.seat).0,
      omega (arith, laid.even, laid.some),
      splits_kept _ _ _ _ (at_fields c.seat.view_is c.self.view_is (λ b v. 1 < v.shares) c.requires.shares),
    )
