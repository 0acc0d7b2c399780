-- How an index of names is kept.
use Rattle.std.specs.Prelude.{◌+◌, ◌≤◌, length, vec_capacity}
use Rattle.sorted_lists.specs.SortedList.{keys, Rises}
use Rattle.repo_catalog.specs.declared.name_index.NameIndex.TheInside.{Inside}
use Rattle.repo_catalog.specs.NameKeys.{KeyList, key_cmp}

-- Its keys are those of a map.
abbrev pub index_of : Inside → KeyList
index_of i = record { keys = keys i.map.entries; waiting = i.waiting.items; spare = i.spare; room = i.room }

-- The map's keys are in order and it has the room that is said, and each publication that is to come has room among
-- those that wait.
pub record IsIndex (i : Inside) : Type 0 where
  pub in_order : Rises key_cmp (keys i.map.entries)
  pub room : i.room ≤ i.map.spare
  pub room_to_wait : i.spare + length i.waiting.items ≤ vec_capacity i.waiting
