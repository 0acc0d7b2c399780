use Rattle.std.proofs.Common.{◌+◌, Option, take, sym, subst, ◌∙◌}
use Rattle.sorted_lists.specs.Least.{IsFirstThat}
use Rattle.sorted_lists.proofs.LeastOnes.{first_more, first_past, first_all}
use Rattle.repo_plan.specs.Parts.{Pair, pair_cmp}
use Rattle.repo_plan.proofs.Orders.{exact_pairs}
use Rattle.repo_catalog.specs.NameKeys.{has_name}
use Rattle.repo_catalog.proofs.by_name.first_waiting.Goals as goal
use Rattle.repo_catalog.proofs.by_name.first_waiting.Goals.{then-has_name, else-has_name}

pub loop-publication-preserved : goal.loop-publication-preserved
loop-publication-preserved c =
    let waiting = c.args.waiting.now in
    let test = has_name c.args.name.now c.args.entries.now in
    let i = c.loop-publication.publication-index in
    let Next = λ (least : Option Pair). IsFirstThat pair_cmp (λ p. p) (take (i + 1) waiting) test least in
    elim c.if-has_name.branch [
      | then-has_name w ↦
          subst Next (sym (w.least-is ∙ w.lesser-least.ensures))
          (first_more exact_pairs (λ p. p) waiting test i (0, 0) c.loop-publication.least c.loop-publication-test.true
          (sym c.has_name.ensures ∙ w.if-has_name.true) c.loop-publication.invariant)
      | else-has_name w ↦
          subst Next (sym w.least-is)
          (first_past exact_pairs (λ p. p) waiting test i (0, 0) c.loop-publication.least c.loop-publication-test.true
          (sym c.has_name.ensures ∙ w.if-has_name.false) c.loop-publication.invariant)
    ]

pub returns : goal.returns
returns c =
    first_all exact_pairs (λ p. p) c.args.waiting.now (has_name c.args.name.now c.args.entries.now)
    c.loop-publication.publication-index c.loop-publication.least c.loop-publication-test.false
    c.loop-publication.invariant
