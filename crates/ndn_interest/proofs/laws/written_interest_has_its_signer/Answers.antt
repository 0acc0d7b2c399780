use Rattle.ndn_interest.proofs.SignerLemmas.{signer_again}
use Rattle.ndn_interest.proofs.laws.written_interest_has_its_signer.Goals as goal

pub returns : goal.returns
returns c = signer_again
