use Rattle.std.proofs.Common.{ℕ, ◌+◌, ◌-◌, length, refl, sym, ap, ◌∙◌, arith}
use Rattle.std.specs.List.{filter}
use Rattle.sorted_lists.specs.Runs.{has_number}
use Rattle.repo_plan.specs.Counts.{how_many}
use Rattle.repo_plan.specs.Parts.{Pair, pair_cmp, last_part}
use Rattle.repo_plan.specs.Plan.{PlanState, is_in, shape_of}
use Rattle.repo_plan.proofs.Counts.{same_many}
use Rattle.repo_plan.proofs.Counted.{none_held, all_held, run_held}
use Rattle.repo_plan.proofs.plan.Plan.held_in.Goals as goal

pub returns-in-None : goal.returns-in-None
returns-in-None c =
    let pair : Pair = (c.args.publisher, c.args.seq) in
    let none = ap (λ (p : PlanState). shape_of p pair) c.self.view_is ∙ sym c.shape.ensures.shape ∙ c.in-None.is in
    sym (none_held c.self.inside c.self.invariant pair none)
    ∙ ap (λ (p : PlanState). length (filter (is_in pair) p.held)) c.self.view_is

pub returns-in-Some : goal.returns-in-Some
returns-in-Some c =
    let pair : Pair = (c.args.publisher, c.args.seq) in
    let some = ap (λ (p : PlanState). shape_of p pair) c.self.view_is ∙ sym c.in-Some.ensures.shape in
    ap (λ (n : ℕ). n + 1) c.last_part.ensures
    ∙ sym (all_held c.self.inside c.self.invariant pair c.in-Some.shape some
    (sym c.contains.ensures ∙ c.if-contains.true))
    ∙ ap (λ (p : PlanState). length (filter (is_in pair) p.held)) c.self.view_is

pub returns-in-Some-2 : goal.returns-in-Some-2
returns-in-Some-2 c =
    let pair : Pair = (c.args.publisher, c.args.seq) in
    let some = ap (λ (p : PlanState). shape_of p pair) c.self.view_is ∙ sym c.in-Some.ensures.shape in
    c.count_in.ensures
    ∙ ap (λ (n : ℕ). how_many (λ x. has_number pair_cmp c.self.inside.held (pair, x)) 0 (n + 1 - 0))
    c.last_part-in-Some-2.ensures
    ∙ same_many (λ x. has_number pair_cmp c.self.inside.held (pair, x))
    (λ x. has_number pair_cmp c.self.inside.held (pair, x)) (λ x. refl) 0 0
    (last_part c.in-Some.shape + 1 - 0) (last_part c.in-Some.shape + 1) refl (omega arith)
    ∙ sym (run_held c.self.inside c.self.invariant pair c.in-Some.shape some
    (sym c.contains.ensures ∙ c.if-contains.false))
    ∙ ap (λ (p : PlanState). length (filter (is_in pair) p.held)) c.self.view_is
