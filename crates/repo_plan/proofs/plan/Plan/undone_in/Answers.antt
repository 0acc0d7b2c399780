use Rattle.std.proofs.Common.{◌≡◌, ℕ, ◌+◌, ◌-◌, ◌≤◌, Bool, ap, ◌∙◌, arith}
use Rattle.std.specs.Ordering.{nat_cmp}
use Rattle.sorted_lists.specs.Runs.{has_number}
use Rattle.repo_plan.specs.Counts.{how_many}
use Rattle.repo_plan.specs.Plan.{PlanState, is_done}
use Rattle.repo_plan.proofs.Counts.{not_many, at_most, same_many}
use Rattle.repo_plan.proofs.plan.Plan.undone_in.Goals as goal

pub overflow_sub-result : goal.overflow_sub-result
overflow_sub-result c =
    let done : ℕ → Bool = λ n. has_number nat_cmp c.self.inside.done (c.args.publisher, n) in
    let first = c.from-first.result + 1 in
    let counted : c.count_in.result ≡ how_many done first (c.from-2.result + 1 - first) = c.count_in.ensures in
    let most : how_many done first (c.from-2.result + 1 - first) ≤ c.from-2.result + 1 - first =
    at_most done first (c.from-2.result + 1 - first) in
    omega (arith, c.from.ensures, c.from-2.ensures, c.from-first.ensures, counted, most)

pub returns : goal.returns
returns c =
    let publisher = c.args.publisher in
    let done : ℕ → Bool = λ n. is_done c.args.self.now (publisher, n) in
    let first = c.from-first.result + 1 in
    let from : c.from-first.result + 1 ≡ c.args.after + 1 = ap (λ n. n + 1) c.from-first.ensures in
    let same : how_many (λ n. has_number nat_cmp c.self.inside.done (publisher, n)) first
    (c.from-2.result + 1 - first)
    ≡ how_many done (c.args.after + 1) (c.args.last - c.args.after) =
    same_many (λ n. has_number nat_cmp c.self.inside.done (publisher, n)) done
    (λ n. c.self.invariant.all_done (publisher, n) ∙ ap (λ (p : PlanState). is_done p (publisher, n)) c.self.view_is)
    first (c.args.after + 1) (c.from-2.result + 1 - first) (c.args.last - c.args.after) from
    (omega (arith, c.from-first.ensures, c.from-2.ensures)) in
    omega (
      arith,
      c.from.ensures,
      c.count_in.ensures,
      same,
      not_many done (c.args.after + 1) (c.args.last - c.args.after),
    )
