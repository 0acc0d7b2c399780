use Rattle.std.proofs.Common.{◌+◌, ◌≤◌, length, vec_len, vec_capacity}
use Rattle.sorted_lists.specs.SortedList.{keys}
use Rattle.repo_catalog.specs.NameKeys.{AreKeysOf}
use Rattle.repo_catalog.proofs.name_index.put_in_place.Given as goal

abbrev pub invariant-loop-publisher : goal.invariant-loop-publisher
invariant-loop-publisher l = record {
  keys : AreKeysOf l.entries (keys l.map.entries) l.waiting.items;
  room : l.initial.map.spare + length l.waiting.items ≤ l.map.spare + length l.initial.waiting.items;
  left : length l.waiting.items ≤ l.map.spare;
  room_to_wait : vec_capacity l.initial.waiting ≤ vec_capacity l.waiting;
}

abbrev pub decreases-loop-publisher : goal.decreases-loop-publisher
decreases-loop-publisher l = vec_len l.waiting
