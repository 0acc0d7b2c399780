use Rattle.ndn_interest.proofs.SignerLemmas.{digest_is_tested, signature_is_tested, signer_there}
use Rattle.ndn_interest.proofs.laws.signers_are_tested.Goals as goal

pub returns-clause-digest : goal.returns-clause-digest
returns-clause-digest c = digest_is_tested

pub returns-clause-signature : goal.returns-clause-signature
returns-clause-signature c = signature_is_tested

pub returns-clause-number : goal.returns-clause-number
returns-clause-number c = signer_there
