use Rattle.std.proofs.Common.{arith, ◌+◌, ◌<◌, sym, subst, ◌∙◌}
use Rattle.fetch_board.specs.Counts.{pairs}
use Rattle.fetch_board.specs.Seats.{IsSeatOf, Holds}
use Rattle.fetch_board.proofs.Opened.{at_fields}
use Rattle.fetch_board.proofs.Ends.{recalls_kept}
use Rattle.fetch_board.proofs.Claims.{returns_at}
use Rattle.fetch_board.proofs.board.Board.give_back.Goals as goal

pub load-found-requires : goal.load-found-requires
load-found-requires g c =
    let laid = c.self.invariant in
    let near = at_fields c.seat.view_is c.self.view_is (λ b v. c.args.item < b.items) c.requires.item in (
      (at_fields c.seat.view_is c.self.view_is IsSeatOf c.requires.seat).0,
      omega (arith, laid.even, laid.room, near),
      recalls_kept _ _ _ _ _ _ c.seat.invariant.some_share,
    )

pub store-requires : goal.store-requires
store-requires g c =
    let laid = c.self.invariant in
    let near = at_fields c.seat.view_is c.self.view_is (λ b v. c.args.item < b.items) c.requires.item in
    let a = c.requires.held.0 in
    let holds = at_fields c.seat.view_is c.self.view_is (λ b v. Holds c.args.item a v) c.requires.held.1 in
    let low = at_fields c.seat.view_is c.self.view_is (λ b v. a + 1 < b.tries) c.requires.held.2 in
    let saw = c.load-found.ensures in
    let same = saw.2.0 in
    let word = (saw.2.1 a holds).0 in (
      saw.0 ∙ (at_fields c.seat.view_is c.self.view_is IsSeatOf c.requires.seat).0,
      omega (arith, laid.even, laid.room, near),
      returns_at _ _ _ _ _ a _ _ (omega (arith, word)) (omega (arith, laid.room, near))
          (subst (λ m. 0 < m.0.shares) (sym same) c.seat.invariant.some_share)
          (subst (λ m. 0 < pairs c.args.item a m.0.held) (sym same) holds)
          (subst (λ n. a + 1 < n) laid.tries_known low),
    )
