use Rattle.std.proofs.Common.{◌≡◌, take}
use Rattle.svs_vector.specs.Vectors.{join}
use Rattle.repo_member.proofs.member.syncing.learn.Given as goal

abbrev pub invariant-loop-member : goal.invariant-loop-member
invariant-loop-member l = l.held ≡ record l.initial.held { known = join l.vector (take l.member l.received) }
