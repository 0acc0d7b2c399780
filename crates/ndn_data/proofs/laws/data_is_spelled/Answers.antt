use Rattle.ndn_data.proofs.SignedLemmas.{data_spelled}
use Rattle.ndn_data.proofs.laws.data_is_spelled.Goals as goal

pub returns : goal.returns
returns c = data_spelled
