use Rattle.repo_catalog.proofs.LawLemmas.{removes_one}
use Rattle.repo_catalog.proofs.laws.removed_entries_are_gone.Goals as goal

pub returns : goal.returns
returns c = removes_one
