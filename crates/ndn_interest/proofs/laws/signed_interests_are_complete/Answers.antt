use Rattle.ndn_interest.proofs.SpelledLemmas.{interest_complete}
use Rattle.ndn_interest.proofs.laws.signed_interests_are_complete.Goals as goal

pub returns : goal.returns
returns c = interest_complete
