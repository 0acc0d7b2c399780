use Rattle.std.proofs.Common.{refl}
use Rattle.ndn_tlv.proofs.Places.{fields_stand}
use Rattle.ndn_tlv.proofs.laws.fields_stand_in_order.Goals as goal

pub returns : goal.returns
returns g c = λ table elements. fields_stand table elements.fault elements.items 0 table refl
