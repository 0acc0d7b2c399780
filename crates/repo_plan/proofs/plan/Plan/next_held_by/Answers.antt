use Rattle.std.proofs.Common.{Option, sym, ◌∙◌, subst}
use Rattle.repo_plan.specs.declared.part.Part.{Part}
use Rattle.repo_plan.specs.Leaps.{some_holds, IsLeastFrom}
use Rattle.repo_plan.proofs.Leaping.{none_wanted, none_held, found, leapt, shorter}
use Rattle.repo_plan.proofs.plan.Plan.next_held_by.Goals as goal

pub returns-in_default-least_of_some : goal.returns-in_default-least_of_some
returns-in_default-least_of_some g c =
    let test = some_holds g.H.HasParts.has c.args.others.now in
    none_held c.args.self.now test c.args.after c.loop-wanted.passed c.loop-wanted.invariant c.in-Some.wanted
    c.in-Some.ensures
    (subst (λ (r : Option Part). IsLeastFrom test c.in-Some.wanted r) c.in_default-least_of_some.is
    c.least_of_some.ensures)

pub returns-then-is_unclaimed : goal.returns-then-is_unclaimed
returns-then-is_unclaimed g c =
    let test = some_holds g.H.HasParts.has c.args.others.now in
    found c.args.self.now test c.args.after c.loop-wanted.passed c.loop-wanted.invariant c.in-Some.wanted
    c.in-Some.ensures c.in-Some-least_of_some.held c.in-Some-least_of_some.ensures
    (sym c.is_unclaimed.ensures ∙ c.if-is_unclaimed.true)

pub loop-wanted-smaller : goal.loop-wanted-smaller
loop-wanted-smaller g c =
    let test = some_holds g.H.HasParts.has c.args.others.now in
    shorter c.args.self.now test c.args.after c.loop-wanted.passed c.loop-wanted.invariant c.in-Some.wanted
    c.in-Some.ensures c.in-Some-least_of_some.held c.in-Some-least_of_some.ensures

pub loop-wanted-preserved : goal.loop-wanted-preserved
loop-wanted-preserved g c =
    let test = some_holds g.H.HasParts.has c.args.others.now in
    leapt c.args.self.now test c.args.after c.loop-wanted.passed c.loop-wanted.invariant c.in-Some.wanted
    c.in-Some.ensures c.in-Some-least_of_some.held c.in-Some-least_of_some.ensures
    (sym c.is_unclaimed.ensures ∙ c.if-is_unclaimed.false)

pub returns : goal.returns
returns g c =
    let test = some_holds g.H.HasParts.has c.args.others.now in
    none_wanted c.args.self.now test c.args.after c.loop-wanted.passed c.loop-wanted.invariant
    (sym c.in_default.is ∙ c.next_unclaimed.ensures)
