use Rattle.std.proofs.Common.{rules}
use Rattle.std.proofs.lemmas.List.Sorted.{IsPartitionPoint-from_clause}
use Rattle.sorted_lists.specs.BlockMap.{begins_up_to}
use Rattle.sorted_lists.proofs.Blocks.{parted, placed, place_within}
use Rattle.sorted_lists.proofs.block_map.BlockMap.place_of.Goals as goal

pub returns-clause-place : goal.returns-clause-place
returns-clause-place g c =
    let o = g.met.K.Ord.total in
    let blocks = c.deref.result.now in
    let key = c.args.key in
    let rises = rw (← c.deref.ensures.value) at c.requires.rises in
    let kept = rw (← c.deref.ensures.value) at c.requires.sizes in
    let point =
    IsPartitionPoint-from_clause (λ b. begins_up_to g.K.Ord.cmp key b.items) blocks c.partition_point.result
    c.partition_point.ensures.partitioned (parted o key blocks rises kept) (λ a r f called. search rules) in
    rw c.deref.ensures.value at
    (placed o key blocks c.partition_point.result c.saturating_sub.result rises kept c.partition_point.ensures.bound
    point.0 point.1 c.saturating_sub.ensures)

pub returns-clause-there : goal.returns-clause-there
returns-clause-there g c =
    place_within g.met.K.Ord.total c.args.key c.args.self.now.blocks.items c.saturating_sub.result
    (returns-clause-place g c)
