use Rattle.std.proofs.Common.{length, refl, ◌∙◌}
use Rattle.repo_holdings.proofs.HoldingsLemmas.{reading}
use Rattle.repo_holdings.proofs.holdings.Holdings.held_count.Goals as goal

pub returns : goal.returns
returns c =
    c.held_count.ensures
    ∙ reading (λ p. length p.held) c.self.inside c.args.self.now c.self.invariant c.self.view_is refl
