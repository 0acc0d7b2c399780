use Rattle.repo_store.proofs.KeptLemmas.{rises_different, contains_different}
use Rattle.repo_store.proofs.laws.different_octets_are_of_parts.Goals as goal

pub returns-clause-once : goal.returns-clause-once
returns-clause-once c = rises_different

pub returns-clause-those : goal.returns-clause-those
returns-clause-those c = contains_different
