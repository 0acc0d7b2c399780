use Rattle.ndn_data.proofs.ReadBackLemmas.{data_again}
use Rattle.ndn_data.proofs.laws.written_data_is_read.Goals as goal

pub returns : goal.returns
returns c = data_again
