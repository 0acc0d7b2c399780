use Rattle.std.proofs.Common.{◌≡◌, ◌+◌, ◌≤◌, ◌++◌, take, vec_len, vec_capacity}
use Rattle.sorted_lists.specs.Members.{HaveSame}
use Rattle.repo_store.specs.Indexes.{AreInOrder}
use Rattle.repo_store.proofs.names.insert_all.Given as goal

abbrev pub invariant-loop-next : goal.invariant-loop-next
invariant-loop-next l = record {
  in_order : AreInOrder l.kept.slots l.index.items;
  same : HaveSame l.index.items (l.initial.index.items ++ take l.next-index l.held);
  len : vec_len l.index ≡ vec_len l.initial.index + l.next-index;
  capacity : vec_capacity l.initial.index ≤ vec_capacity l.index;
}
