use Rattle.ndn_data.proofs.ContentLemmas.{data_content_short}
use Rattle.ndn_data.proofs.laws.contents_fit.Goals as goal

pub returns : goal.returns
returns c = data_content_short
