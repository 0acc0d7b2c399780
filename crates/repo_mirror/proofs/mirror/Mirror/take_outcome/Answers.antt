use Rattle.std.proofs.Common.{◌≡◌, [], List, map, sym, ap, subst, ◌∙◌, arith}
use Rattle.std.specs.List.{All}
use Rattle.sorted_lists.specs.SortedList.{Rises}
use Rattle.sorted_lists.proofs.Sets.{rises_insert_keys}
use Rattle.repo_plan.specs.Parts.{pair_cmp}
use Rattle.repo_plan.proofs.Orders.{exact_pairs}
use Rattle.repo_holdings.specs.HoldingsState.{HoldingsState}
use Rattle.repo_holdings.specs.Records.{Packet}
use Rattle.repo_holdings.specs.Taking.{Fetched, came, with_all_fetched}
use Rattle.repo_member.specs.Outcomes.{outcome_of}
use Rattle.repo_watch.specs.declared.pattern.Pattern.{Pattern}
use Rattle.repo_mirror.specs.PacketsFor.{IsCheckedFetch, ArePacketsFor}
use Rattle.repo_mirror.specs.MirrorState.{MirrorState}
use Rattle.repo_mirror.specs.Passing.{fetches_for, not_kept}
use Rattle.repo_mirror.proofs.JobLemmas.{as_many}
use Rattle.repo_mirror.proofs.KeptLemmas.{kept_packets}
use Rattle.repo_mirror.proofs.mirror.Mirror.take_outcome.Goals as goal

pub take_sorted-requires-clause-in_order : goal.take_sorted-requires-clause-in_order
take_sorted-requires-clause-in_order g c =
    subst (Rises pair_cmp) (sym (c.deref.ensures.value ∙ c.in_ok-kept.ensures.passed))
    (rises_insert_keys exact_pairs
    (not_kept c.args.self.now.pattern (outcome_of c.args.jobs.now c.args.parts.now c.args.attempts.now)) [] tt)

pub number_that_came-requires : goal.number_that_came-requires
number_that_came-requires g c =
    let many = as_many c.args.self.now c.args.jobs.now c.args.parts.now c.args.attempts.now c.requires.outcome.each in
    omega (arith, many, c.in-Ok.ensures)

pub invariant_of-self-2 : goal.invariant_of-self-2
invariant_of-self-2 g c =
    let pattern : Pattern = c.self.inside.pattern in
    let stored : List Packet = c.self.inside.held.store in
    let all = outcome_of c.args.jobs.now c.args.parts.now c.args.attempts.now in
    let taken = c.in_ok-take_sorted.ensures.ok in
    let kept : map came c.in_ok-kept.field-0.kept.items ≡ fetches_for pattern all =
    c.in_ok-kept.ensures.kept ∙ ap (λ (m : MirrorState). fetches_for m.pattern all) (sym c.self.view_is) in
    record {
      few = c.self.invariant.few;
      known = ap (λ (h : HoldingsState). h.known) taken ∙ c.self.invariant.known;
      claims = ap (λ (h : HoldingsState). h.claims) taken ∙ c.self.invariant.claims;
      packets =
          subst (ArePacketsFor pattern)
          (sym (ap (λ (h : HoldingsState). h.store) taken
          ∙ ap (λ (xs : List Fetched). with_all_fetched xs stored) kept))
          (kept_packets pattern all stored (subst (All IsCheckedFetch) kept c.in_ok-kept.ensures.checked)
          c.self.invariant.packets);
    }
