use Rattle.std.proofs.Common.{◌≡◌, ◌+◌, ◌≤◌, length, vec_len, vec_capacity}
use Rattle.sorted_lists.proofs.Climbs.{Merging}
use Rattle.repo_store.specs.Indexes.{key_in}
use Rattle.repo_store.proofs.IndexLemmas.{exact_keys}
use Rattle.repo_store.proofs.index.merge.Given as goal

abbrev pub invariant-loop-held : goal.invariant-loop-held
invariant-loop-held l = record {
  merging : Merging exact_keys (key_in l.kept.slots) l.settled l.recent l.merged.items l.rest l.held-index;
  len : vec_len l.merged + length l.rest ≡ length l.settled + l.held-index;
  capacity : vec_capacity l.initial.merged ≤ vec_capacity l.merged;
}
