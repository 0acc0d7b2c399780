use Rattle.ndn_interest.proofs.ReadBackLemmas.{signed_again}
use Rattle.ndn_interest.proofs.laws.written_interest_is_read.Goals as goal

pub returns : goal.returns
returns c = λ name key_name parameters key. signed_again name key_name parameters key
