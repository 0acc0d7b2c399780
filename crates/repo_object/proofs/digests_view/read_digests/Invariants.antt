use Rattle.std.proofs.Common.{◌≡◌, ◌++◌}
use Rattle.std.specs.Prelude.{IsSome}
use Rattle.repo_object.specs.Readers.{remaining_digests, digests_left}
use Rattle.repo_object.proofs.digests_view.read_digests.Given as goal

abbrev pub invariant-loop-digest : goal.invariant-loop-digest
invariant-loop-digest l = record {
  all : IsSome (remaining_digests l.digests);
  whole : l.read.items ++ digests_left l.digests ≡ digests_left l.initial.digests;
}

abbrev pub decreases-loop-digest : goal.decreases-loop-digest
decreases-loop-digest l = l.digests.left
