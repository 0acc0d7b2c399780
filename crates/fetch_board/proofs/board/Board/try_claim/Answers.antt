use Rattle.std.proofs.Common.{arith, ◌<◌, ◌*◌, sym, ap, ◌∙◌}
use Rattle.fetch_board.specs.Words.{word_code}
use Rattle.fetch_board.specs.Seats.{IsSeatOf}
use Rattle.fetch_board.proofs.Opened.{at_fields, finds_seat, finds_word}
use Rattle.fetch_board.proofs.Claims.{claims_kept}
use Rattle.fetch_board.proofs.board.Board.try_claim.Goals as goal

pub compare_exchange-found-requires : goal.compare_exchange-found-requires
compare_exchange-found-requires g c =
    let laid = c.self.invariant in
    let near = at_fields c.seat.view_is c.self.view_is (λ b v. c.args.item < b.items) c.requires.item in (
      (at_fields c.seat.view_is c.self.view_is IsSeatOf c.requires.seat).0,
      omega (arith, laid.even, laid.room, near),
      claims_kept _ _ _ _ _ c.from-expected.result _ (omega (arith, laid.room, near)) c.seat.invariant.some_share,
    )

pub returns-clause-claimed : goal.returns-clause-claimed
returns-clause-claimed g c =
    let miss = c.compare_exchange-found.ensures.2.2 c.if-found-expected.false in
    let is = c.word_of.ensures miss.0 miss.1.0 in (
      finds_word (sym is) (finds_seat _ _ _ _ _ _ _ _ c.seat.view_is c.compare_exchange-found.ensures.0 miss.1),
      λ e. c.if-found-expected.false
          (miss.1.0 ∙ (ap word_code (sym is ∙ e) ∙ ap (λ k. 4 * k) (sym c.from-expected.ensures))),
    )
