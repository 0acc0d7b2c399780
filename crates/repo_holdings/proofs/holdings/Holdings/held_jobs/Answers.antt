use Rattle.std.proofs.Common.{◌≡◌, true, map, take, refl, sym, ap, ◌∙◌, subst, slice_index_or}
use Rattle.std.specs.List.{All, filter}
use Rattle.std.proofs.lemmas.Result.{IfOk-weaker}
use Rattle.repo_plan.specs.Plan.{may_be_asked_for, is_after, unclaimed}
use Rattle.repo_plan.specs.Leaps.{some_holds}
use Rattle.repo_holdings.specs.Wanting.{job_at}
use Rattle.repo_holdings.proofs.PlanLemmas.{passing_are_asked}
use Rattle.repo_holdings.proofs.HoldingsLemmas.{reading}
use Rattle.repo_holdings.proofs.holdings.Holdings.held_jobs.Goals as goal

pub jobs_of-requires-clause-asked : goal.jobs_of-requires-clause-asked
jobs_of-requires-clause-asked g c = λ k d inside.
    let listed =
    subst (All (λ t. may_be_asked_for c.self.inside.stock.plan t ≡ true))
    (sym (c.deref.ensures.value ∙ c.in_ok-parts.ensures))
    (passing_are_asked c.self.inside.stock.plan (some_holds g.H.HasParts.has c.args.others.now) c.args.after
    c.args.most) in
    sym (reading (λ p. may_be_asked_for p (slice_index_or c.deref.result.now k d)) c.self.inside c.args.self.now
    c.self.invariant c.self.view_is refl)
    ∙ listed k d inside

pub returns : goal.returns
returns g c =
    IfOk-weaker c.jobs_of.result _ _ (λ jobs are.
    are
    ∙ ap (map (job_at c.args.publishers.now c.args.group.now c.args.self.now))
    (c.deref.ensures.value ∙ c.in_ok-parts.ensures
    ∙ reading (λ p. take c.args.most
    (filter (some_holds g.H.HasParts.has c.args.others.now) (filter (is_after c.args.after) (unclaimed p))))
    c.self.inside c.args.self.now c.self.invariant c.self.view_is refl)) c.jobs_of.ensures
