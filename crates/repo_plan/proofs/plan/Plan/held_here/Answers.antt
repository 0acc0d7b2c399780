use Rattle.std.proofs.Common.{◌≡◌, true, false, refl, sym, ap, ◌∙◌, subst, arith}
use Rattle.std.proofs.lemmas.Bool.{or_left}
use Rattle.std.specs.Ordering.{nat_cmp}
use Rattle.sorted_lists.specs.Runs.{has_number}
use Rattle.repo_plan.specs.Parts.{part_of, pair_of}
use Rattle.repo_plan.specs.Plan.{PlanState, holds, shape_of}
use Rattle.repo_plan.proofs.Views.{held_counted, gap_open}
use Rattle.repo_plan.proofs.Leaps.{beyond_last}
use Rattle.repo_plan.proofs.plan.Plan.held_here.Goals as goal

pub returns-then-contains : goal.returns-then-contains
returns-then-contains c =
    let t = c.args.part in
    let shape = ap (λ (p : PlanState). shape_of p (pair_of t)) c.self.view_is ∙ sym c.in-Some.ensures.shape in
    let held = held_counted c.self.inside c.self.invariant t c.in-Some.shape shape
    (omega (arith, c.if-from-last_part.true)) in (
      refl,
      omega arith,
      ap (λ (p : PlanState). holds p t) (sym c.self.view_is)
          ∙ held
          ∙ or_left (has_number nat_cmp c.self.inside.done (pair_of t)) _
          (sym c.contains.ensures ∙ c.if-contains.true),
      λ x a b. absurd (omega (arith, a, b)),
    )

pub returns-in-Some-number_from : goal.returns-in-Some-number_from
returns-in-Some-number_from c =
    let pair = pair_of c.args.part in
    let found = c.in-Some-number_from.ensures in
    let undone = sym (c.self.invariant.all_done pair) ∙ sym c.contains.ensures ∙ c.if-contains.false in (
      refl,
      found.0,
      subst (λ (p : PlanState). holds p (part_of pair c.in-Some-number_from.x) ≡ true) c.self.view_is
          (c.self.invariant.all_held (pair, c.in-Some-number_from.x) found.1),
      λ x a b.
          subst (λ (p : PlanState). holds p (part_of pair x) ≡ false) c.self.view_is
          (gap_open c.self.inside c.self.invariant pair x undone (found.2 x a b)),
    )

pub returns-in-None : goal.returns-in-None
returns-in-None c = λ x a.
    let pair = pair_of c.args.part in
    let undone = sym (c.self.invariant.all_done pair) ∙ sym c.contains.ensures ∙ c.if-contains.false in
    subst (λ (p : PlanState). holds p (part_of pair x) ≡ false) c.self.view_is
    (gap_open c.self.inside c.self.invariant pair x undone (c.in-None.ensures x a))

pub returns-in_default : goal.returns-in_default
returns-in_default c = λ x a.
    let pair = pair_of c.args.part in
    let shape = ap (λ (p : PlanState). shape_of p pair) c.self.view_is ∙ sym c.in-Some.ensures.shape in
    subst (λ (p : PlanState). holds p (part_of pair x) ≡ false) c.self.view_is
    (beyond_last c.self.inside c.self.invariant pair x c.in-Some.shape shape
    (omega (arith, a, c.if-from-last_part.false, c.last_part.ensures, c.from.ensures)))
