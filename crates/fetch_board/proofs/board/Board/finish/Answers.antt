use Rattle.std.proofs.Common.{arith, ℕ, ◌<◌, ◌∷◌, Some, sym, subst, ap, ◌∙◌}
use Rattle.atomic_table.specs.Table.{rest}
use Rattle.fetch_board.specs.Counts.{pairs}
use Rattle.fetch_board.specs.Seats.{IsSeatOf, Holds}
use Rattle.fetch_board.proofs.Opened.{at_fields}
use Rattle.fetch_board.proofs.Marks.{pair_own}
use Rattle.fetch_board.proofs.Ends.{reserves_kept, files_at}
use Rattle.fetch_board.proofs.board.Board.finish.Goals as goal

pub load-found-requires : goal.load-found-requires
load-found-requires g c =
    let laid = c.self.invariant in
    let near = at_fields c.seat.view_is c.self.view_is (λ b v. c.args.item < b.items) c.requires.item in
    let a = c.requires.held.0 in
    let holds = at_fields c.seat.view_is c.self.view_is (λ b v. Holds c.args.item a v) c.requires.held.1 in (
      (at_fields c.seat.view_is c.self.view_is IsSeatOf c.requires.seat).0,
      omega (arith, laid.even, laid.room, near),
      reserves_kept _ _ _ _ _ a _ (omega (arith, laid.room, near)) c.seat.invariant.some_share holds,
    )

pub store-requires : goal.store-requires
store-requires g c =
    let laid = c.self.invariant in
    let near = at_fields c.seat.view_is c.self.view_is (λ b v. c.args.item < b.items) c.requires.item in
    let i : ℕ = c.args.item in
    let took = c.load-found.ensures.2 in
    let a : ℕ = took.0 in
    let put = c.exchange.ensures in
    let knowledge = ap (λ m. m.0) put.3 ∙ took.5 in
    let out = ap (λ m. m.1) put.3 in (
      put.0 ∙ (c.load-found.ensures.0 ∙ (at_fields c.seat.view_is c.self.view_is IsSeatOf c.requires.seat).0),
      omega (arith, laid.even, laid.room, near),
      files_at _ _ _ _ _ a _ c.args.value _ (omega (arith, took.2)) (omega (arith, laid.room, near))
          (subst (λ v. 0 < v.shares) (sym knowledge) c.seat.invariant.some_share)
          (subst (λ v. 0 < pairs i a v.placing) (sym knowledge)
          (pair_own i a (pairs i a c.seat.inside.inner.me.0.placing)))
          (out ∙ (λ k. (i, Some c.args.value) ∷ sym (ap rest out) k)),
    )
