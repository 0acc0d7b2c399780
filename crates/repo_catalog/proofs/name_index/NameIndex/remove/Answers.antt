use Rattle.std.proofs.Common.{List, ap, not, ◌&&◌, ◌∙◌, arith}
use Rattle.std.specs.Ordering.{eq_by_cmp}
use Rattle.sorted_lists.specs.SortedList.{keys, contains}
use Rattle.sorted_lists.proofs.MapChanges.{rises_without}
use Rattle.repo_catalog.specs.NameKeys.{Key, KeyList, key_cmp}
use Rattle.repo_catalog.proofs.KeyLemmas.{exact_keys, contains-without}
use Rattle.repo_catalog.proofs.name_index.NameIndex.remove.Goals as goal

pub invariant_of-self : goal.invariant_of-self
invariant_of-self c = record {
  in_order =
      rw c.remove.ensures.entries
      (rises_without exact_keys.total c.args.key c.self.inside.map.entries c.self.invariant.in_order);
  room = omega (arith, c.self.invariant.room, c.remove.ensures.spare);
  room_to_wait = c.self.invariant.room_to_wait;
}

pub returns-clause-keys : goal.returns-clause-keys
returns-clause-keys c = λ q.
    ap (λ (ks : List Key). contains key_cmp ks q) (ap keys c.remove.ensures.entries)
    ∙ contains-without c.args.key c.self.inside.map.entries q c.self.invariant.in_order
    ∙ ap (λ (l : KeyList). not (eq_by_cmp key_cmp q c.args.key) && contains key_cmp l.keys q) c.self.view_is
