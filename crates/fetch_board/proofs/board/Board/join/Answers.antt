use Rattle.std.proofs.Common.{arith, ◌<◌, sym, ap, subst, ◌∙◌}
use Rattle.fetch_board.specs.Seats.{IsSeatOf}
use Rattle.fetch_board.proofs.Opened.{at_fields}
use Rattle.fetch_board.proofs.Seats.{joins_kept}
use Rattle.fetch_board.proofs.Ends.{agrees_kept}
use Rattle.fetch_board.proofs.board.Board.join.Goals as goal

pub join_seat-requires : goal.join_seat-requires
join_seat-requires g c =
    let laid = c.self.invariant in (
      (at_fields c.into.view_is c.self.view_is IsSeatOf c.requires.into).0,
      (at_fields c.from.view_is c.self.view_is IsSeatOf c.requires.from).0,
      c.from.invariant.carries,
      omega (arith, laid.even, laid.some),
      joins_kept _ _ _ _ _ _ c.into.invariant.some_share,
    )

pub load-requires : goal.load-requires
load-requires g c =
    let laid = c.self.invariant in
    let some = c.into.invariant.some_share in (
      c.join_seat.ensures.0 ∙ (at_fields c.into.view_is c.self.view_is IsSeatOf c.requires.into).0,
      omega (arith, laid.even, laid.some),
      agrees_kept _ _ _ _ _ _
          (subst (λ n. 0 < n) (sym (ap (λ m. m.0.shares) c.join_seat.ensures.2)) (omega (arith, some))),
    )
