use Rattle.ndn_sign.proofs.RingLemmas.{number-name}
use Rattle.ndn_sign.proofs.laws.names_tell_pairs_apart.Goals as goal

pub returns : goal.returns
returns c = number-name
