use Rattle.ndn_name.specs.CanonicalOrder.{canonical_cmp_total}
use Rattle.ndn_name.proofs.laws.canonical_order_is_total.Goals as goal

pub returns : goal.returns
returns c = canonical_cmp_total
