use Rattle.std.proofs.Common.{length, refl, ◌∙◌}
use Rattle.repo_plan.specs.Plan.{wanted}
use Rattle.repo_holdings.proofs.HoldingsLemmas.{reading}
use Rattle.repo_holdings.proofs.holdings.Holdings.wanted_count.Goals as goal

pub returns : goal.returns
returns c =
    c.wanted_count.ensures
    ∙ reading (λ p. length (wanted p)) c.self.inside c.args.self.now c.self.invariant c.self.view_is refl
