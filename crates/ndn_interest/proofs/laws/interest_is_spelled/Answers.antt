use Rattle.ndn_interest.proofs.SpelledLemmas.{interest_spelled}
use Rattle.ndn_interest.proofs.laws.interest_is_spelled.Goals as goal

pub returns : goal.returns
returns c = interest_spelled
