use Rattle.std.proofs.Common.{◌≡◌, take, length}
use Rattle.svs_vector.specs.Vectors.{join}
use Rattle.repo_mirror.specs.Asked.{asked_numbers}
use Rattle.repo_mirror.proofs.learning.learn.Given as goal

abbrev pub invariant-loop-member : goal.invariant-loop-member
invariant-loop-member l = record {
  held : l.held ≡ record l.initial.held { known = asked_numbers l.asked 0 (join l.vector (take l.member l.received)) };
  width : length l.held.known ≡ length l.received;
}
