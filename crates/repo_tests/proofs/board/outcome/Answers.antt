use Rattle.std.proofs.Common.{◌≡◌, ⊎_elim, ℕ, ◌<◌, List, ◌++◌, ap, sym, subst, arith}
use Rattle.std.proofs.lemmas.Bool.{cases_eq}
use Rattle.fetch_board.specs.Counts.{items}
use Rattle.fetch_board.proofs.Marks.{items-append}
use Rattle.repo_tests.proofs.board.outcome.Goals as goal

-- a list that has both items has them with another list after it
both : (xs ys : List ℕ) → (0 < items 0 xs) × (0 < items 1 xs) → (i : ℕ) → i < 2 → 0 < items i (xs ++ ys)
both xs ys h i low =
    ⊎_elim (λ e. subst (λ k. 0 < items k (xs ++ ys)) (sym e) (omega (arith, items-append 0 xs ys, h.0)))
    (λ ne. let e : i ≡ 1 = omega arith in
    subst (λ k. 0 < items k (xs ++ ys)) (sym e) (omega (arith, items-append 1 xs ys, h.1)))
    (cases_eq i 0)

pub close-requires-clause-passed : goal.close-requires-clause-passed
close-requires-clause-passed c = λ i low.
    subst (λ xs. 0 < items i xs) (sym (ap (λ v. v.passed) c.join.ensures.joined))
    (both _ _ c.in_ok-share.ensures.passed i (omega (arith, low, c.in-Ok.ensures.board.0)))
