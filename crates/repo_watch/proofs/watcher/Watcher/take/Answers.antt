use Rattle.std.proofs.Common.{sym, subst, ◌∙◌}
use Rattle.repo_plan.specs.Parts.{pair_cmp}
use Rattle.sorted_lists.specs.SortedList.{Rises}
use Rattle.sorted_lists.proofs.Sets.{rises_insert_keys}
use Rattle.repo_plan.proofs.Orders.{exact_pairs}
use Rattle.repo_watch.specs.Watching.{is_news}
use Rattle.repo_watch.proofs.AnnouncedLemmas.{passing_rise}
use Rattle.repo_watch.proofs.watcher.Watcher.take.Goals as goal

pub add-requires-clause-pairs_rise : goal.add-requires-clause-pairs_rise
add-requires-clause-pairs_rise g c =
    subst (Rises pair_cmp) (sym (c.deref.ensures.value ∙ c.in_ok-pairs.ensures))
    (passing_rise (is_news c.args.self.now) c.entries.result.now
    (rw c.entries.ensures.entries c.entries.ensures.ordered))

pub invariant_of-self-2 : goal.invariant_of-self-2
invariant_of-self-2 g c =
    subst (Rises pair_cmp) (sym c.in_ok-add.ensures.ok)
    (rises_insert_keys exact_pairs c.deref.result.now c.self.inside.announced.items c.self.invariant)
