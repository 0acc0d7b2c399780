use Rattle.std.proofs.Common.{◌≡◌, refl, subst, Option}
use Rattle.std.specs.Prelude.{IfOk}
use Rattle.repo_plan.specs.declared.part.Part.{Part}
use Rattle.repo_plan.specs.Plan.{first, unclaimed}
use Rattle.repo_holdings.proofs.HoldingsLemmas.{reading}
use Rattle.repo_holdings.proofs.holdings.Holdings.claim.Goals as goal

pub returns-clause-part : goal.returns-clause-part
returns-clause-part c =
    subst (λ (part : Option Part). IfOk c.claim.result (λ claim. claim ≡ part))
    (reading (λ p. first (unclaimed p)) c.self.inside c.args.self.now c.self.invariant c.self.view_is refl)
    c.claim.ensures.part
