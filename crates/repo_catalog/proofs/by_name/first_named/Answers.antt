use Rattle.std.proofs.Common.{List, subst, ◌∙◌}
use Rattle.sorted_lists.specs.Least.{IsFirstThat}
use Rattle.repo_plan.specs.Parts.{Pair, pair_cmp}
use Rattle.repo_catalog.specs.NameKeys.{has_name}
use Rattle.repo_catalog.proofs.SoughtLemmas.{first_of_all}
use Rattle.repo_catalog.proofs.by_name.first_named.Goals as goal

pub returns : goal.returns
returns c =
    let name = c.args.name.now in
    let es = c.args.entries.now in
    let b = c.first_waiting.result in
    c.lesser.ensures
    ∙ first_of_all name es c.requires.in_order c.args.names.now.keys c.args.names.now.waiting c.requires.indexed
    c.first_indexed.result b c.first_indexed.ensures
    (subst (λ (ws : List Pair). IsFirstThat pair_cmp (λ p. p) ws (has_name name es) b) c.waiting.ensures
    c.first_waiting.ensures)
