use Rattle.repo_catalog.proofs.LawLemmas.{first_is_least}
use Rattle.repo_catalog.proofs.laws.first_named_is_least.Goals as goal

pub returns : goal.returns
returns c = first_is_least
