use Rattle.repo_catalog.proofs.LawLemmas.{entries_tell_all}
use Rattle.repo_catalog.proofs.laws.entries_tell_all_of_a_catalogue.Goals as goal

pub returns : goal.returns
returns c = entries_tell_all
