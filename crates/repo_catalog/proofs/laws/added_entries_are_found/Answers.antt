use Rattle.repo_catalog.proofs.LawLemmas.{adds_one}
use Rattle.repo_catalog.proofs.laws.added_entries_are_found.Goals as goal

pub returns : goal.returns
returns c = adds_one
