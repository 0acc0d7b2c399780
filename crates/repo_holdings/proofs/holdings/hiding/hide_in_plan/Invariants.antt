use Rattle.std.proofs.Common.{◌≡◌, ◌+◌, length, drop}
use Rattle.repo_holdings.specs.Hiding.{plan_hides}
use Rattle.repo_holdings.proofs.holdings.hiding.hide_in_plan.Given as goal

abbrev pub invariant-loop-publisher : goal.invariant-loop-publisher
invariant-loop-publisher l =
    let rest = drop l.publisher-index l.publications in record {
      hidden : plan_hides rest l.plan ≡ plan_hides l.publications l.initial.plan;
      claims : l.plan.claims ≡ l.initial.plan.claims;
      room : l.plan.spare + length l.publications ≡ l.initial.plan.spare + length rest;
    }
