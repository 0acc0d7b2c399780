use Rattle.std.proofs.Common.{◌≡◌, false}
use Rattle.sorted_lists.specs.SortedList.{contains, value_of}
use Rattle.repo_plan.specs.Parts.{Pair, pair_cmp}
use Rattle.repo_holdings.proofs.holdings.hiding.forget_names.Given as goal

abbrev pub invariant-loop-publication : goal.invariant-loop-publication
invariant-loop-publication l = record {
  withdrawn : l.notes.withdrawn ≡ l.initial.notes.withdrawn;
  spare : l.notes.spare ≡ l.initial.notes.spare;
  others : (q : Pair) → contains pair_cmp l.publications q ≡ false
      → value_of pair_cmp l.notes.names q ≡ value_of pair_cmp l.initial.notes.names q;
}
