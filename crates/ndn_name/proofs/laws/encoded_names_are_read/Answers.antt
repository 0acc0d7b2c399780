use Rattle.ndn_name.proofs.Encodings.{name_of-encoding}
use Rattle.ndn_name.proofs.laws.encoded_names_are_read.Goals as goal

pub returns : goal.returns
returns c = name_of-encoding
