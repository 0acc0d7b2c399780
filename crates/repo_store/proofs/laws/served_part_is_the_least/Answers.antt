use Rattle.repo_store.proofs.LawLemmas.{served_least}
use Rattle.repo_store.proofs.laws.served_part_is_the_least.Goals as goal

pub returns : goal.returns
returns c = served_least
