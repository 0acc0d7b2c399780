use Rattle.std.proofs.Common.{◌≡◌, false, List, Option, slice_index_or, sym, ap, subst, ◌∙◌}
use Rattle.std.specs.List.{All, list_any}
use Rattle.repo_plan.specs.declared.part.Part.{Part}
use Rattle.repo_plan.specs.Plan.{PlanState, is_claim_in}
use Rattle.repo_holdings.specs.Listed.{is_withdrawal}
use Rattle.repo_holdings.specs.HoldingsState.{HoldingsState}
use Rattle.repo_holdings.proofs.holdings.Holdings.hide_all.Goals as goal

pub hide_all-requires-clause-hidable : goal.hide_all-requires-clause-hidable
hide_all-requires-clause-hidable c =
    let claims =
    ap (λ (p : PlanState). p.claims) c.in_ok-reserve.ensures.ok
    ∙ ap (λ (h : HoldingsState). h.claims) c.self.view_is in
    record {
      unclaimed = λ k d low.
          ap (λ (cs : List (Option Part)). list_any (is_claim_in (slice_index_or c.args.publications.now k d)) cs)
          claims
          ∙ c.requires.unclaimed k d low;
      in_order = c.requires.in_order;
      objects =
          subst (λ (h : HoldingsState). All (λ pair. is_withdrawal h.store pair ≡ false) c.args.publications.now)
          (sym c.self.view_is) c.requires.objects;
    }
