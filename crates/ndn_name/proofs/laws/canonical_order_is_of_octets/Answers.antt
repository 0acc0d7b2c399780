use Rattle.ndn_name.proofs.OrderLemmas.{encodings-cmp}
use Rattle.ndn_name.proofs.laws.canonical_order_is_of_octets.Goals as goal

pub returns : goal.returns
returns c = encodings-cmp
