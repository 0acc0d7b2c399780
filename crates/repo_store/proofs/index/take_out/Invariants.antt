use Rattle.std.proofs.Common.{◌≡◌, ◌≤◌, vec_len, vec_capacity}
use Rattle.repo_store.proofs.TakenLemmas.{Taking}
use Rattle.repo_store.proofs.index.take_out.Given as goal

abbrev pub invariant-loop-place : goal.invariant-loop-place
invariant-loop-place l = record {
  taking : Taking l.kept.slots l.held l.initial.index.items l.index.items;
  len : vec_len l.index ≤ vec_len l.initial.index;
  capacity : vec_capacity l.index ≡ vec_capacity l.initial.index;
}

abbrev pub decreases-loop-place : goal.decreases-loop-place
decreases-loop-place l = vec_len l.index
