use Rattle.ndn_interest.proofs.ReadBackLemmas.{plain_again}
use Rattle.ndn_interest.proofs.laws.written_plain_is_read.Goals as goal

pub returns : goal.returns
returns c = plain_again
