use Rattle.repo_member.proofs.ChangeLemmas.{begins_alike, publishes_alike}
use Rattle.repo_member.proofs.laws.publishing_and_syncing_are_the_groups.Goals as goal

pub returns-clause-begins : goal.returns-clause-begins
returns-clause-begins c = begins_alike

pub returns-clause-publishes : goal.returns-clause-publishes
returns-clause-publishes c = publishes_alike
