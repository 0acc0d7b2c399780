use Rattle.std.proofs.Common.{rules, arith, ◌<◌}
use Rattle.fetch_board.specs.Seats.{IsSeatOf}
use Rattle.fetch_board.proofs.Opened.{at_fields, finds_seat}
use Rattle.fetch_board.proofs.Looks.{looks_kept}
use Rattle.fetch_board.proofs.board.Board.look.Goals as goal

pub load-found-requires : goal.load-found-requires
load-found-requires g c =
    let laid = c.self.invariant in
    let near = at_fields c.seat.view_is c.self.view_is (λ b v. c.args.item < b.items) c.requires.item in (
      (at_fields c.seat.view_is c.self.view_is IsSeatOf c.requires.seat).0,
      omega (arith, laid.even, laid.room, near),
      looks_kept _ _ _ _ _ _ (omega (arith, laid.room, near)) c.seat.invariant.some_share,
    )

pub returns-clause-seen : goal.returns-clause-seen
returns-clause-seen g c =
    let saw = c.load-found.ensures.2.1 in (
      saw.0,
      finds_seat _ _ _ _ _ _ _ _ c.seat.view_is c.load-found.ensures.0 saw.1,
      search rules,
    )
