use Rattle.ndn_name.proofs.Encodings.{encoding-same}
use Rattle.ndn_name.proofs.laws.equal_octets_are_equal_names.Goals as goal

pub returns : goal.returns
returns c = encoding-same
