use Rattle.std.proofs.Common.{Bool, refl, subst}
use Rattle.repo_plan.specs.declared.part.Part.{Part}
use Rattle.repo_plan.specs.Plan.{holds}
use Rattle.repo_plan.specs.Leaps.{IsLeastFrom}
use Rattle.repo_holdings.proofs.HoldingsLemmas.{reading}
use Rattle.repo_holdings.proofs.holdings.wanting.HoldingsHasParts.least_from.Goals as goal

pub returns : goal.returns
returns c =
    subst (λ (has : Part → Bool). IsLeastFrom has c.args.part c.held_from.result)
    (reading holds c.self.inside c.args.self.now c.self.invariant c.self.view_is refl) c.held_from.ensures.least
