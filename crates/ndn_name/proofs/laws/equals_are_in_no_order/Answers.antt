use Rattle.std.proofs.lemmas.Cmp.{tied_itself}
use Rattle.ndn_name.specs.CanonicalOrder.{canonical_cmp_total}
use Rattle.ndn_name.proofs.Prefixes.{canonical_cmp-equal}
use Rattle.ndn_name.proofs.laws.equals_are_in_no_order.Goals as goal

pub returns-clause-same : goal.returns-clause-same
returns-clause-same c = tied_itself canonical_cmp_total

pub returns-clause-differ : goal.returns-clause-differ
returns-clause-differ c = canonical_cmp-equal
