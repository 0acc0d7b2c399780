use Rattle.std.proofs.Common.{ℕ, max, slice_index_or, sym, ap, ◌∙◌, subst, map}
use Rattle.repo_holdings.specs.Listed.{is_withdrawal}
use Rattle.repo_holdings.specs.HoldingsState.{HoldingsState, held_plan}
use Rattle.repo_holdings.specs.Hiding.{hides_all, with_hidden}
use Rattle.repo_holdings.specs.Taking.{AreTakable, came, after_outcome}
use Rattle.repo_mirror.proofs.HidingLemmas.{none_withdrawn, hides_only, still_takable}
use Rattle.repo_mirror.proofs.mirror.outcome.take_sorted.Goals as goal

pub hide_all-requires-clause-objects : goal.hide_all-requires-clause-objects
hide_all-requires-clause-objects c = λ k d low.
    ap (λ (h : HoldingsState). is_withdrawal h.store (slice_index_or c.args.passed.now k d)) c.in_ok-reserve.ensures.ok
    ∙ none_withdrawn c.args.passed.now c.args.held.now c.requires.apart.unknown k d low

pub take-requires-clause-takable : goal.take-requires-clause-takable
take-requires-clause-takable c =
    let n : ℕ = max c.args.held.now.spare c.len.result in
    subst (λ (h : HoldingsState). AreTakable (held_plan h) h.store c.args.kept.items)
    (sym (c.in_ok-hide_all.ensures.ok
    ∙ ap (hides_all c.args.passed.now) c.in_ok-reserve.ensures.ok
    ∙ hides_only c.args.passed.now c.args.held.now n c.requires.apart.unknown))
    (still_takable c.args.passed.now c.args.held.now n c.requires.apart.unknown c.args.kept.items
    c.requires.apart.others c.requires.kept)

pub returns-clause-ok : goal.returns-clause-ok
returns-clause-ok c =
    c.take.ensures.taken
    ∙ ap (after_outcome (map came c.args.kept.items))
    (c.in_ok-hide_all.ensures.ok
    ∙ ap (hides_all c.args.passed.now) c.in_ok-reserve.ensures.ok
    ∙ hides_only c.args.passed.now c.args.held.now (max c.args.held.now.spare c.len.result) c.requires.apart.unknown
    ∙ ap (λ (n : ℕ). record c.args.held.now {
      hidden = with_hidden c.args.passed.now c.args.held.now.hidden;
      spare = max c.args.held.now.spare n;
    }) c.len.ensures)
