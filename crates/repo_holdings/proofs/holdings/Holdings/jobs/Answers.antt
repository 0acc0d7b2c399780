use Rattle.std.proofs.Common.{◌≡◌, true, refl, sym, ◌∙◌, subst, slice_index_or}
use Rattle.std.specs.List.{All}
use Rattle.repo_plan.specs.Plan.{may_be_asked_for}
use Rattle.repo_holdings.proofs.PlanLemmas.{listed_are_asked}
use Rattle.repo_holdings.proofs.HoldingsLemmas.{reading}
use Rattle.repo_holdings.proofs.holdings.Holdings.jobs.Goals as goal

pub jobs_of-requires-clause-asked : goal.jobs_of-requires-clause-asked
jobs_of-requires-clause-asked c = λ k d inside.
    let listed =
    subst (All (λ t. may_be_asked_for c.self.inside.stock.plan t ≡ true))
    (sym (c.deref.ensures.value ∙ c.in_ok-parts.ensures))
    (listed_are_asked c.self.inside.stock.plan c.args.after c.args.most) in
    sym (reading (λ p. may_be_asked_for p (slice_index_or c.deref.result.now k d)) c.self.inside c.args.self.now
    c.self.invariant c.self.view_is refl)
    ∙ listed k d inside
