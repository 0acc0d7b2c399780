use Rattle.std.proofs.Common.{◌≡◌, ◌++◌, drop}
use Rattle.repo_plan.specs.Parts.{pair_cmp}
use Rattle.sorted_lists.specs.SortedList.{Rises, insert_keys}
use Rattle.repo_watch.proofs.announced.merged.Given as goal

abbrev pub invariant-loop-pair : goal.invariant-loop-pair
invariant-loop-pair l = record {
  rises : Rises pair_cmp l.rest;
  all : l.all.items ++ insert_keys pair_cmp (drop l.pair-index l.pairs) l.rest
      ≡ insert_keys pair_cmp l.pairs l.fn.announced;
}
