use Rattle.ndn_tlv.proofs.ElementLemmas.{element_alone}
use Rattle.ndn_tlv.proofs.laws.elements_are_no_prefixes.Goals as goal

pub returns : goal.returns
returns c = element_alone
