use Rattle.std.proofs.Common.{◌+◌, ℕ, List, length, get_or, Option, sym, ap, ◌∙◌, drop, arith}
use Rattle.std.specs.List.{list_any}
use Rattle.std.proofs.lemmas.List.{at_drop_more, at_drop_all}
use Rattle.repo_plan.specs.declared.part.Part.{Part}
use Rattle.repo_plan.specs.Parts.{Pair}
use Rattle.repo_plan.specs.Plan.{PlanState, is_claim_in}
use Rattle.repo_holdings.specs.Hiding.{plan_hides}
use Rattle.repo_holdings.proofs.holdings.hiding.hide_in_plan.Goals as goal

pub hide_reserved-requires-clause-spare : goal.hide_reserved-requires-clause-spare
hide_reserved-requires-clause-spare c =
    let rest =
    at_drop_more length c.args.publications.now c.loop-publisher.publisher-index (0, 0) c.loop-publisher-test.true in
    omega (arith, c.requires.room, c.loop-publisher.invariant.room, rest)

pub hide_reserved-requires-clause-not_claimed : goal.hide_reserved-requires-clause-not_claimed
hide_reserved-requires-clause-not_claimed c =
    let pair : Pair = get_or c.args.publications.now c.loop-publisher.publisher-index (0, 0) in
    ap (λ (claims : List (Option Part)). list_any (is_claim_in pair) claims) c.loop-publisher.invariant.claims
    ∙ c.requires.unclaimed c.loop-publisher.publisher-index (0, 0) c.loop-publisher-test.true

pub loop-publisher-preserved : goal.loop-publisher-preserved
loop-publisher-preserved c =
    let pairs : List Pair = c.args.publications.now in
    let i : ℕ = c.loop-publisher.publisher-index in
    let invariant = c.loop-publisher.invariant in
    let hidden = c.hide_reserved.ensures in
    let less = at_drop_more length pairs i (0, 0) c.loop-publisher-test.true in
    record {
      hidden = ap (plan_hides (drop (i + 1) pairs)) hidden
          ∙ sym
          (at_drop_more (λ (rest : List Pair). plan_hides rest c.loop-publisher.plan) pairs i (0, 0)
          c.loop-publisher-test.true)
          ∙ invariant.hidden;
      claims = ap (λ (p : PlanState). p.claims) hidden ∙ invariant.claims;
      room = omega (arith, c.requires.room, invariant.room, less, ap (λ (p : PlanState). p.spare) hidden);
    }

pub returns : goal.returns
returns c =
    sym (at_drop_all (λ (rest : List Pair). plan_hides rest c.loop-publisher.plan) c.args.publications.now
    c.loop-publisher.publisher-index (omega (arith, c.loop-publisher-test.false)))
    ∙ c.loop-publisher.invariant.hidden
