use Rattle.std.proofs.Common.{refl, subst}
use Rattle.repo_plan.specs.Sound.{PlanIsSound}
use Rattle.repo_plan.proofs.Changes.{sound_as}
use Rattle.repo_holdings.specs.HoldingsState.{HoldingsState, held_plan}
use Rattle.repo_holdings.proofs.holdings.Holdings.cite_soundness.Goals as goal

pub returns : goal.returns
returns c =
    let tied = c.self.invariant.kept.sound.tied in
    subst (λ (h : HoldingsState). PlanIsSound (held_plan h)) c.self.view_is
    (sound_as c.self.inside.stock.plan _ refl tied.held tied.shapes refl refl refl c.cite_soundness.ensures)
