use Rattle.std.proofs.Common.{◌≡◌, ◌≤◌, length}
use Rattle.repo_store.proofs.TakenLemmas.{Taking}
use Rattle.repo_store.proofs.settled.Settled.take_out.Given as goal

abbrev pub invariant-loop-place : goal.invariant-loop-place
invariant-loop-place l = record {
  taking : Taking l.kept.slots l.held l.initial.self.items l.self.items;
  len : length l.self.items ≤ length l.initial.self.items;
  kept : l.self.room ≡ l.initial.self.room;
}

abbrev pub decreases-loop-place : goal.decreases-loop-place
decreases-loop-place l = length l.self.items
