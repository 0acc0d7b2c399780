use Rattle.ndn_name.proofs.ComputedNames.{texts-computed}
use Rattle.ndn_name.proofs.laws.texts_are_computed.Goals as goal

pub returns : goal.returns
returns c = texts-computed
