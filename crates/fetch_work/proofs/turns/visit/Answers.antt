use Rattle.std.proofs.Common.{arith, ℕ, ◌<◌, sym, subst}
use Rattle.fetch_board.specs.Counts.{pairs}
use Rattle.fetch_board.proofs.Known.{given}
use Rattle.fetch_board.proofs.Marks.{pair_own}
use Rattle.fetch_work.proofs.Visit.{visit_missed, visit_finished, visit_forgone, visit_returned}
use Rattle.fetch_work.proofs.turns.visit.Goals as goal

pub returns-in_default : goal.returns-in_default
returns-in_default g c = record {
  seat = c.claim.ensures.seat;
  visits = visit_missed _ _ _ _ _ _ c.requires.works c.claim.result c.in_default.not-Yes c.claim.ensures.known;
}

pub overflow_add-before : goal.overflow_add-before
overflow_add-before g c =
    let low = (given c.args.item c.in-Yes.before _ _ c.in-Yes.ensures.taken).0 in
    omega (arith, low, c.requires.seat.1, c.tries-tries.ensures.same, c.tries-tries.ensures.within)

pub returns-in-Some-clause-visits : goal.returns-in-Some-clause-visits
returns-in-Some-clause-visits g c =
    let i : ℕ = c.args.item in
    let a : ℕ = c.in-Yes.before in
    let got = given i a _ _ c.in-Yes.ensures.taken in
    let known = c.in-Yes.ensures.known in
    let holds = subst (λ v. 0 < pairs i a v.held) (sym known) (pair_own i a (pairs i a c.args.seat.now.held)) in
    visit_finished _ _ _ i _ _ c.requires.works _ a (omega (arith, c.requires.item.0, c.requires.item.1))
    (omega (arith, got.0, c.requires.seat.1)) got.1 known
    c.in-Some.value (sym c.in-Some.ensures) (c.finish.ensures.finished a holds)

pub returns-in-None-clause-visits : goal.returns-in-None-clause-visits
returns-in-None-clause-visits g c =
    let got = given c.args.item c.in-Yes.before _ _ c.in-Yes.ensures.taken in
    visit_returned _ _ _ c.args.item _ _ c.requires.works _ c.in-Yes.before
    (omega (arith, c.requires.item.0, c.requires.item.1))
    (omega (arith, got.0, c.requires.seat.1)) got.1 c.in-Yes.ensures.known
    (sym c.in-None.ensures) c.give_back.ensures.returned

pub returns-in-None-2-clause-visits : goal.returns-in-None-2-clause-visits
returns-in-None-2-clause-visits g c =
    let got = given c.args.item c.in-Yes.before _ _ c.in-Yes.ensures.taken in
    visit_forgone _ _ _ c.args.item _ _ c.requires.works _ c.in-Yes.before
    (omega (arith, c.requires.item.0, c.requires.item.1))
    (omega (arith, got.0, c.requires.seat.1)) got.1 c.in-Yes.ensures.known
    (sym c.in-None-2.ensures) c.spend.ensures.spent
