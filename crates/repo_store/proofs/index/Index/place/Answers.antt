use Rattle.std.proofs.Common.{rules}
use Rattle.std.specs.Ordering.{is_lt}
use Rattle.std.proofs.lemmas.List.Sorted.{IsPartitionPoint-from_clause}
use Rattle.sorted_lists.proofs.Climbs.{parted, placed}
use Rattle.repo_store.specs.PacketTable.{Stored}
use Rattle.repo_store.specs.Indexes.{Key, key_cmp, key_in}
use Rattle.repo_store.proofs.IndexLemmas.{exact_keys}
use Rattle.repo_store.proofs.index.Index.place.Goals as goal

pub returns : goal.returns
returns c =
    let index = c.args.self.now in
    let held = index.held.now in
    let key = key_in index.kept.now.slots in
    let asked : Key = (c.args.name.now, c.args.part) in
    let point =
    IsPartitionPoint-from_clause (λ (h : Stored). is_lt (key_cmp (key h) asked)) held c.partition_point.result
    c.partition_point.ensures.partitioned (parted exact_keys key held asked c.requires)
    (λ a r f called. search rules) in
    placed exact_keys key held asked c.partition_point.result c.partition_point.ensures.bound point
