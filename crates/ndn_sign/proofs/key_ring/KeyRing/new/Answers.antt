use Rattle.ndn_sign.proofs.RingLemmas.{empty_ring}
use Rattle.ndn_sign.proofs.key_ring.KeyRing.new.Goals as goal

pub invariant_of-result : goal.invariant_of-result
invariant_of-result c = empty_ring c.new.result.entries c.new.ensures.empty
