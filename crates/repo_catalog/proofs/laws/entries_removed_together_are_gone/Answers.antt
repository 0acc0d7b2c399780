use Rattle.repo_catalog.proofs.ManyLemmas.{removes_all}
use Rattle.repo_catalog.proofs.laws.entries_removed_together_are_gone.Goals as goal

pub returns : goal.returns
returns c = removes_all
