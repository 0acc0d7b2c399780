use Rattle.std.proofs.Common.{◌≡◌, ◌+◌, ◌<◌, arith, ◌∙◌}
use Rattle.fetch_board.specs.Seats.{IsSeatOf, Holds}
use Rattle.fetch_board.proofs.Opened.{at_fields}
use Rattle.fetch_board.proofs.Claims.{spends_kept}
use Rattle.fetch_board.proofs.board.Board.spend.Goals as goal

pub store-requires : goal.store-requires
store-requires g c =
    let laid = c.self.invariant in
    let near = at_fields c.seat.view_is c.self.view_is (λ b v. c.args.item < b.items) c.requires.item in
    let a = c.requires.held.0 in
    let holds = at_fields c.seat.view_is c.self.view_is (λ b v. Holds c.args.item a v) c.requires.held.1 in
    let last = at_fields c.seat.view_is c.self.view_is (λ b v. a + 1 ≡ b.tries) c.requires.held.2 in (
      (at_fields c.seat.view_is c.self.view_is IsSeatOf c.requires.seat).0,
      omega (arith, laid.even, laid.room, near),
      spends_kept _ _ _ _ _ a _ (omega (arith, laid.room, near)) c.seat.invariant.some_share holds
          (last ∙ laid.tries_known),
    )
