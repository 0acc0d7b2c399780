use Rattle.std.proofs.Common.{length}
use Rattle.ndn_name.proofs.SizeLemmas.{IsSoFar}
use Rattle.ndn_name.proofs.uri_size.value_len.Given as goal

abbrev pub invariant-loop-rest : goal.invariant-loop-rest
invariant-loop-rest l = IsSoFar l.text l.rest l.len l.periods

abbrev pub decreases-loop-rest : goal.decreases-loop-rest
decreases-loop-rest l = length l.rest
