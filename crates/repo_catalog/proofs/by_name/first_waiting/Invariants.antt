use Rattle.std.proofs.Common.{take}
use Rattle.sorted_lists.specs.Least.{IsFirstThat}
use Rattle.repo_plan.specs.Parts.{pair_cmp}
use Rattle.repo_catalog.specs.NameKeys.{has_name}
use Rattle.repo_catalog.proofs.by_name.first_waiting.Given as goal

abbrev pub invariant-loop-publication : goal.invariant-loop-publication
invariant-loop-publication l =
    IsFirstThat pair_cmp (λ p. p) (take l.publication-index l.waiting) (has_name l.name l.entries) l.least
