use Rattle.ndn_tlv.proofs.Listings.{elements_alone}
use Rattle.ndn_tlv.proofs.laws.elements_are_unique.Goals as goal

pub returns : goal.returns
returns c = elements_alone
