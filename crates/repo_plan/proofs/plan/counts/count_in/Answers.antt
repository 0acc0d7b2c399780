use Rattle.std.proofs.Common.{ℕ, ◌≤◌, ◌<◌, Bool, arith}
use Rattle.sorted_lists.specs.Runs.{has_number}
use Rattle.repo_plan.proofs.Counts.{none_until, all_until, none_left}
use Rattle.repo_plan.proofs.plan.counts.count_in.Goals as goal

pub returns-in_default : goal.returns-in_default
returns-in_default g c =
    let has : ℕ → Bool = λ n. has_number g.P.Ord.cmp c.args.set.now (c.args.thing, n) in
    let none = none_left has c.loop-passed.passed c.args.end (λ x a b. c.in_default.ensures x a) in
    omega (arith, c.loop-passed.invariant.whole, none)

pub returns-then-from-end : goal.returns-then-from-end
returns-then-from-end g c =
    let has : ℕ → Bool = λ n. has_number g.P.Ord.cmp c.args.set.now (c.args.thing, n) in
    let none = none_left has c.loop-passed.passed c.args.end (λ x a b.
    c.in-Some.ensures.2 x a (omega (arith, b, c.if-from-end.true, c.from.ensures))) in
    omega (arith, c.loop-passed.invariant.whole, none)

pub returns : goal.returns
returns g c =
    let has : ℕ → Bool = λ n. has_number g.P.Ord.cmp c.args.set.now (c.args.thing, n) in
    let none = none_left has c.loop-passed.passed c.args.end
    (λ x a b. absurd (omega (arith, a, b, c.loop-passed-test.false))) in
    omega (arith, c.loop-passed.invariant.whole, none)

pub loop-passed-preserved : goal.loop-passed-preserved
loop-passed-preserved g c =
    let has : ℕ → Bool = λ n. has_number g.P.Ord.cmp c.args.set.now (c.args.thing, n) in
    let number = c.in-Some.number in
    let gap = c.min-gap.result in
    let under : number < c.args.end = omega (arith, c.if-from-end.false, c.from.ensures) in
    let least : (number ≤ gap) × (gap ≤ c.args.end) =
    (omega (arith, c.min-gap.ensures, c.gap_from.ensures.from, under), omega (arith, c.min-gap.ensures)) in
    let before = none_until has c.loop-passed.passed number c.args.end c.in-Some.ensures.0 (omega (arith, under))
    c.in-Some.ensures.2 in
    let run = all_until has number gap c.args.end least.0 least.1 (λ x a b.
    c.gap_from.ensures.none_before x a (omega (arith, b, c.min-gap.ensures))) in
    record {
      whole = omega (arith, c.loop-passed.invariant.whole, before, run, least.0, c.from-in-loop-passed.ensures);
      few =
          omega (
            arith,
            c.loop-passed.invariant.few,
            c.in-Some.ensures.0,
            least.0,
            c.from-in-loop-passed.ensures,
          );
    }
