use Rattle.repo_store.proofs.LawLemmas.{keys_outside}
use Rattle.repo_store.proofs.laws.dropped_parts_are_gone.Goals as goal

pub returns : goal.returns
returns c = keys_outside
