use Rattle.std.proofs.Common.{Some, None, sym, subst}
use Rattle.repo_plan.specs.Parts.{Pair, Shape, pair_of, part_of}
use Rattle.repo_plan.specs.Plan.{PlanState}
use Rattle.repo_plan.specs.Leaps.{IsNextKnown, IsLeastLater}
use Rattle.repo_plan.proofs.Leaps.{none_known, none_later, record_found}
use Rattle.repo_plan.proofs.plan.Plan.record_after.Goals as goal

pub returns-in_default : goal.returns-in_default
returns-in_default c = λ u i.
    none_known c.args.self.now c.cite_soundness.ensures c.args.part
    (subst (IsNextKnown c.args.self.now (pair_of c.args.part)) c.in_default.is c.next_known.ensures) u i

pub returns-in-Some-first_from : goal.returns-in-Some-first_from
returns-in-Some-first_from c =
    let t = c.args.part in
    let y : Pair × Shape =
    ((c.in-Some-first_from.publisher, c.in-Some-first_from.seq), c.in-Some-first_from.field-0-1) in
    let next =
    subst (λ (p : PlanState). IsNextKnown p (pair_of t) (Some c.in-Some.next)) (sym c.self.view_is) c.in-Some.ensures in
    subst (λ (p : PlanState). IsLeastLater p t (Some (part_of y.0 0))) c.self.view_is
    (record_found _ c.self.invariant.sound t c.in-Some.next next y (sym c.in-Some-first_from.ensures.found))

pub returns-in-None : goal.returns-in-None
returns-in-None c =
    let t = c.args.part in
    let next =
    subst (λ (p : PlanState). IsNextKnown p (pair_of t) (Some c.in-Some.next)) (sym c.self.view_is) c.in-Some.ensures in
    subst (λ (p : PlanState). IsLeastLater p t None) c.self.view_is
    (none_later _ c.self.invariant.sound t c.in-Some.next next (sym c.in-None.ensures.found))
