use Rattle.std.proofs.Common.{◌+◌, length, sym, ap, ◌∙◌, arith}
use Rattle.std.specs.List.{filter}
use Rattle.repo_plan.specs.Counts.{how_many}
use Rattle.repo_plan.specs.Parts.{Pair, part_of, last_part}
use Rattle.repo_plan.specs.Plan.{PlanState, knows, shape_of, is_in, may_be_asked_for, wanted}
use Rattle.repo_plan.proofs.Counted.{none_unknown, none_done, one_wanted, some_wanted}
use Rattle.repo_plan.proofs.plan.Plan.wanted_in.Goals as goal
use Rattle.repo_plan.proofs.plan.Plan.wanted_in.Goals.{then-not-is_known-via-then-not-is_known}
use Rattle.repo_plan.proofs.plan.Plan.wanted_in.Goals.{then-not-is_known-via-else-not-is_known+then-contains}

pub returns-then-not-is_known : goal.returns-then-not-is_known
returns-then-not-is_known c =
    let pair : Pair = (c.args.publisher, c.args.seq) in
    elim c.then-not-is_known.branch [
      | then-not-is_known-via-then-not-is_known w ↦
          sym (none_unknown c.self.inside c.self.invariant pair
          (ap (λ (p : PlanState). knows p pair) c.self.view_is ∙ sym c.is_known.ensures ∙ w.if-not-is_known.true))
          ∙ ap (λ (p : PlanState). length (filter (is_in pair) (wanted p))) c.self.view_is
      | then-not-is_known-via-else-not-is_known+then-contains w ↦
          sym (none_done c.self.inside c.self.invariant pair (sym w.contains.ensures ∙ w.if-contains.true))
          ∙ ap (λ (p : PlanState). length (filter (is_in pair) (wanted p))) c.self.view_is
    ]

pub returns-in-None : goal.returns-in-None
returns-in-None c =
    let pair : Pair = (c.args.publisher, c.args.seq) in
    let known =
    ap (λ (p : PlanState). knows p pair) c.self.view_is ∙ sym c.is_known.ensures ∙ c.if-not-is_known.false in
    let none = ap (λ (p : PlanState). shape_of p pair) c.self.view_is ∙ sym c.shape.ensures.shape ∙ c.in-None.is in
    sym (one_wanted c.self.inside c.self.invariant pair known (sym c.contains.ensures ∙ c.if-contains.false) none)
    ∙ ap (λ (p : PlanState). length (filter (is_in pair) (wanted p))) c.self.view_is

pub overflow_sub-result : goal.overflow_sub-result
overflow_sub-result c =
    let pair : Pair = (c.args.publisher, c.args.seq) in
    let n = c.in-Some.shape in
    let known =
    ap (λ (p : PlanState). knows p pair) c.self.view_is ∙ sym c.is_known.ensures ∙ c.if-not-is_known.false in
    let some = ap (λ (p : PlanState). shape_of p pair) c.self.view_is ∙ sym c.in-Some.ensures.shape in
    let all = some_wanted c.self.inside c.self.invariant pair known (sym c.contains.ensures ∙ c.if-contains.false) n
    some in
    let listed =
    ap (λ (p : PlanState). how_many (λ x. may_be_asked_for p (part_of pair x)) 0 (last_part n + 1)) c.self.view_is in
    let held = ap (λ (p : PlanState). length (filter (is_in pair) p.held)) c.self.view_is in
    omega (arith, all, listed, held, c.listed_in.ensures, c.requires)

pub returns-in-Some : goal.returns-in-Some
returns-in-Some c =
    let pair : Pair = (c.args.publisher, c.args.seq) in
    let n = c.in-Some.shape in
    let known =
    ap (λ (p : PlanState). knows p pair) c.self.view_is ∙ sym c.is_known.ensures ∙ c.if-not-is_known.false in
    let some = ap (λ (p : PlanState). shape_of p pair) c.self.view_is ∙ sym c.in-Some.ensures.shape in
    let all = some_wanted c.self.inside c.self.invariant pair known (sym c.contains.ensures ∙ c.if-contains.false) n
    some in
    let listed =
    ap (λ (p : PlanState). how_many (λ x. may_be_asked_for p (part_of pair x)) 0 (last_part n + 1)) c.self.view_is in
    let held = ap (λ (p : PlanState). length (filter (is_in pair) p.held)) c.self.view_is in
    let want = ap (λ (p : PlanState). length (filter (is_in pair) (wanted p))) c.self.view_is in
    omega (arith, all, listed, held, want, c.listed_in.ensures, c.requires)
