use Rattle.repo_catalog.proofs.ManyLemmas.{adds_all}
use Rattle.repo_catalog.proofs.laws.entries_added_together_are_found.Goals as goal

pub returns : goal.returns
returns c = adds_all
