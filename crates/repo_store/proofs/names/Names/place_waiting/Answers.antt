use Rattle.std.proofs.Common.{List, ◌++◌, refl, subst, arith}
use Rattle.sorted_lists.specs.Members.{HaveSame}
use Rattle.sorted_lists.proofs.Members.{same_back, same_permutation, same_then}
use Rattle.repo_store.specs.PacketTable.{Stored}
use Rattle.repo_store.specs.NameLayers.{IsMerged}
use Rattle.repo_store.proofs.NameLayerLemmas.{settled_same, placed_same}
use Rattle.repo_store.proofs.names.Names.place_waiting.Goals as goal

pub returns-else-has_many_recent-clause-same : goal.returns-else-has_many_recent-clause-same
returns-else-has_many_recent-clause-same c =
    let l = c.args.self.now in
    let sorted = c.sort_unstable_by.new.self.items in
    let more = c.insert_all.new.index.items in
    let moved = same_back (same_permutation l.waiting.items sorted c.sort_unstable_by.ensures.permutation) in
    let added : HaveSame more (l.recent.items ++ sorted) =
    subst (λ (xs : List Stored). HaveSame more (l.recent.items ++ xs)) c.deref.ensures.value
    c.insert_all.ensures.same in
    placed_same l.settled.items l.recent.items l.waiting.items sorted more c.clear.new.self.items moved added
    c.clear.ensures.items

pub returns-then-has_many_recent-clause-same : goal.returns-then-has_many_recent-clause-same
returns-then-has_many_recent-clause-same c =
    let l = c.args.self.now in
    let sorted = c.sort_unstable_by.new.self.items in
    let more = c.insert_all.new.index.items in
    let moved = same_back (same_permutation l.waiting.items sorted c.sort_unstable_by.ensures.permutation) in
    let added : HaveSame more (l.recent.items ++ sorted) =
    subst (λ (xs : List Stored). HaveSame more (l.recent.items ++ xs)) c.deref.ensures.value
    c.insert_all.ensures.same in
    let merged =
    subst (λ (xs : List Stored). IsMerged c.args.kept.now.slots l.settled.items xs c.settle.new.self.items)
    c.deref-then-has_many_recent.ensures.value c.settle.ensures.merged in
    same_then
    (settled_same c.args.kept.now.slots l.settled.items more c.clear.new.self.items c.settle.new.self.items
    c.settle.new.self.items c.clear-then-has_many_recent.new.self.items merged refl
    c.clear-then-has_many_recent.ensures.items)
    (placed_same l.settled.items l.recent.items l.waiting.items sorted more c.clear.new.self.items moved added
    c.clear.ensures.items)

pub returns-then-has_many_recent-clause-room : goal.returns-then-has_many_recent-clause-room
returns-then-has_many_recent-clause-room c n room =
    let sorted = c.sort_unstable_by.ensures.len in
    let added = c.insert_all.ensures.len in
    let none = c.clear.ensures.len in
    let settled = c.settle.ensures in
    let left = c.clear-then-has_many_recent.ensures in
    record {
      waiting = omega (arith, room.waiting, none, c.clear.ensures.capacity, c.sort_unstable_by.ensures.capacity);
      recent = omega (arith, room.recent, none, left.len, left.capacity, c.insert_all.ensures.capacity);
      settled =
          omega (
            arith,
            room.settled,
            sorted,
            added,
            none,
            c.deref.ensures.len,
            settled.len,
            settled.kept,
            left.len,
            c.deref-then-has_many_recent.ensures.len,
          );
    }
