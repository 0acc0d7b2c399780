use Rattle.std.proofs.Common.{◌≡◌, ◌/◌, ◌<◌, None, length, get_or, sym, subst, ⊎_elim, ◌∙◌, arith}
use Rattle.core.specs.Mem.Slots.{slots_items}
use Rattle.atomic_table.specs.Table.{Final, Seen}
use Rattle.fetch_board.specs.Counts.{items}
use Rattle.fetch_board.specs.Rule.{Kept}
use Rattle.fetch_board.specs.Seats.{IsSeatOf}
use Rattle.fetch_board.specs.Answers.{Rests, Settled}
use Rattle.fetch_board.proofs.Opened.{at_fields}
use Rattle.fetch_board.proofs.Closes.{closes, closes_at}
use Rattle.fetch_board.proofs.board.Board.close.Goals as goal
use Rattle.fetch_board.proofs.Ends.{there}

pub settle-outcome-requires-clause-words : goal.settle-outcome-requires-clause-words
settle-outcome-requires-clause-words g c = λ i n near word ne.
    let closed = c.close_with-closed in
    let laid = c.self.invariant in
    let v = c.seat.inside.inner.me.0 in
    let same = (at_fields c.seat.view_is c.self.view_is IsSeatOf c.requires.seat).1 in
    let every = at_fields c.seat.view_is c.self.view_is (λ b v. v.shares ≡ b.seats) c.requires.shares in
    let rests = at_fields c.seat.view_is c.self.view_is (λ b v. Rests v) c.requires.rests in
    let low : i < c.self.inside.items = omega (arith, c.in_ok-values.ensures) in
    let passed = at_fields c.seat.view_is c.self.view_is (λ b v. i < b.items → 0 < items i v.passed)
    (c.requires.passed i) in
    let h = there (slots_items closed.result.slots) i
    (omega (arith, closed.ensures.counts.1, closed.result.slots.ok.0, laid.room)) in
    ⊎_elim (λ e. absurd (ne e.0)) (λ e. subst (λ k. n / 4 < k) (sym laid.tries_known) e.1)
    (closes _ _ _ v _ _ c.seat.inside.inner.table_id closed.ensures.values.2
    (same ∙ laid.tries_known) every rests.0 c.seat.invariant.places rests.1 i n h.0 (passed low) word h.1)

pub returns-clause-settled : goal.returns-clause-settled
returns-clause-settled g c = λ i low.
    let closed = c.close_with-closed in
    let laid = c.self.invariant in
    let seat = c.seat.inside.inner in
    let seats = c.self.inside.table.shared.key.seats in
    let ws = slots_items closed.result.words in
    let xs = slots_items closed.result.slots in
    let same = (at_fields c.seat.view_is c.self.view_is IsSeatOf c.requires.seat).1 in
    let every = at_fields c.seat.view_is c.self.view_is (λ b v. v.shares ≡ b.seats) c.requires.shares in
    let rests = at_fields c.seat.view_is c.self.view_is (λ b v. Rests v) c.requires.rests in
    let passed = at_fields c.seat.view_is c.self.view_is (λ b v. 0 < items i v.passed) (c.requires.passed i low) in
    let below = at_fields c.seat.view_is c.self.view_is (λ b v. i < b.items) low in
    let fin = subst (λ t. Final (Seen (Kept t seats) seat.id seat.me.0) ws xs)
    (sym laid.tries_known) closed.ensures.values.2 in
    let near : i < length c.in_ok-values.values.items = omega (arith, below, c.in_ok-values.ensures) in
    let settled = c.settle-outcome.ensures.outcome in
    let outcome = c.settle-outcome.result in
    subst (λ v. Settled v i (get_or outcome.values.items i None) (get_or outcome.attempts.items i 0)) c.seat.view_is
    (closes_at _ _ _ seat.me.0 ws xs seat.table_id fin same every rests.0 c.seat.invariant.places rests.1 i passed _
    (settled.values i near) _ (settled.attempts i near))
