use Rattle.ndn_name.proofs.Encodings.{name_of-encoded}
use Rattle.ndn_name.proofs.laws.read_names_are_encoded.Goals as goal

pub returns : goal.returns
returns c = name_of-encoded
