use Rattle.std.proofs.Common.{sym, ◌∙◌, subst, ◌<◌, Option}
use Rattle.repo_plan.specs.declared.part.Part.{Part}
use Rattle.repo_plan.specs.Leaps.{IsLeastFrom}
use Rattle.bench_world.specs.Touching.{one_holds}
use Rattle.bench_world.proofs.Touching.{GoesOn, begins, none_held, held_touched, goes_on, left_from, left_fewer}
use Rattle.bench_world.proofs.lenders.LendersHasParts.least_from.Goals as goal

pub loop-next-init : goal.loop-next-init
loop-next-init c =
    begins (one_holds c.args.self.now.members.now) c.args.self.now.touched.now c.args.part c.first_from-next.result
    c.first_from-next.ensures

pub returns-in_default-least_of_some : goal.returns-in_default-least_of_some
returns-in_default-least_of_some c =
    let held_by = one_holds c.args.self.now.members.now in
    let n = c.args.self.now.touched.now in
    none_held held_by n c.args.part c.in-Some.from
    (subst (GoesOn held_by n c.args.part) c.in-Some.is c.loop-next.invariant)
    (subst (λ (r : Option Part). IsLeastFrom held_by c.in-Some.from r) c.in_default-least_of_some.is
    c.least_of_some.ensures)

pub returns-then-has : goal.returns-then-has
returns-then-has c =
    let held_by = one_holds c.args.self.now.members.now in
    let n = c.args.self.now.touched.now in
    held_touched held_by n c.args.part c.in-Some.from
    (subst (GoesOn held_by n c.args.part) c.in-Some.is c.loop-next.invariant) c.in-Some-least_of_some.held
    c.in-Some-least_of_some.ensures (sym c.has.ensures ∙ c.if-has.true)

pub loop-next-smaller : goal.loop-next-smaller
loop-next-smaller c =
    let held_by = one_holds c.args.self.now.members.now in
    let n = c.args.self.now.touched.now in
    subst (λ (o : Option Part). left_from n c.first_from-next-in-Some.result < left_from n o) (sym c.in-Some.is)
    (left_fewer held_by n c.args.part c.in-Some.from c.in-Some-least_of_some.held
    (subst (GoesOn held_by n c.args.part) c.in-Some.is c.loop-next.invariant) c.in-Some-least_of_some.ensures
    (sym c.has.ensures ∙ c.if-has.false) c.first_from-next-in-Some.result c.first_from-next-in-Some.ensures)

pub loop-next-preserved : goal.loop-next-preserved
loop-next-preserved c =
    let held_by = one_holds c.args.self.now.members.now in
    let n = c.args.self.now.touched.now in
    goes_on held_by n c.args.part c.in-Some.from
    (subst (GoesOn held_by n c.args.part) c.in-Some.is c.loop-next.invariant) c.in-Some-least_of_some.held
    c.in-Some-least_of_some.ensures c.first_from-next-in-Some.result c.first_from-next-in-Some.ensures
