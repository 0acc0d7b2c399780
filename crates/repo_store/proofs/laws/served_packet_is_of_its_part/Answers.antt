use Rattle.repo_store.proofs.LawLemmas.{served_of_part}
use Rattle.repo_store.proofs.laws.served_packet_is_of_its_part.Goals as goal

pub returns : goal.returns
returns c = served_of_part
