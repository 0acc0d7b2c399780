use Rattle.repo_store.proofs.LawLemmas.{got_data}
use Rattle.repo_store.proofs.laws.got_packets_are_data.Goals as goal

pub returns : goal.returns
returns c = got_data
