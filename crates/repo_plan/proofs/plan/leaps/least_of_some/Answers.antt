use Rattle.std.proofs.Common.{◌+◌, Option, take, sym, ◌∙◌, subst, arith}
use Rattle.std.proofs.lemmas.List.{take_all}
use Rattle.repo_plan.specs.declared.part.Part.{Part}
use Rattle.repo_plan.specs.Leaps.{some_holds, IsLeastFrom}
use Rattle.repo_plan.proofs.Leaping.{one_more, at_once}
use Rattle.repo_plan.proofs.plan.leaps.least_of_some.Goals as goal

pub loop-other-preserved : goal.loop-other-preserved
loop-other-preserved g c =
    let has = g.H.HasParts.has in
    let i = c.loop-other.other-index in
    let d = c.other-item.result in
    subst
    (λ (r : Option Part). IsLeastFrom (some_holds has (take (i + 1) c.args.others.now)) c.args.part r)
    (sym c.lesser-least.ensures)
    (one_more has c.args.part c.args.others.now i d c.loop-other.least c.least_from-held.result (omega arith)
    c.loop-other.invariant
    (subst (λ o. IsLeastFrom (has o) c.args.part c.least_from-held.result) c.other-item.is c.least_from-held.ensures))

pub returns : goal.returns
returns g c =
    subst (λ others. IsLeastFrom (some_holds g.H.HasParts.has others) c.args.part c.loop-other.least)
    (take_all c.loop-other.other-index c.args.others.now (omega arith)) c.loop-other.invariant

pub returns-then-is_same : goal.returns-then-is_same
returns-then-is_same g c =
    let has = g.H.HasParts.has in
    at_once has c.args.part c.args.others.now c.loop-other.other-index c.other-item.result c.least_from-held.result
    (omega arith)
    (subst (λ o. IsLeastFrom (has o) c.args.part c.least_from-held.result) c.other-item.is c.least_from-held.ensures)
    (sym c.is_same.ensures ∙ c.if-is_same.true)
