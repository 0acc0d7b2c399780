use Rattle.ndn_interest.proofs.ReadBackLemmas.{has_digest}
use Rattle.ndn_interest.proofs.laws.written_interest_has_its_digest.Goals as goal

pub returns : goal.returns
returns c = λ name key_name parameters key. has_digest name key_name parameters key
