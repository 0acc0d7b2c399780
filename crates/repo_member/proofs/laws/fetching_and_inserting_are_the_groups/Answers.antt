use Rattle.repo_member.proofs.ChangeLemmas.{accepts_alike, takes_alike}
use Rattle.repo_member.proofs.CommandEvents.{starts_alike}
use Rattle.repo_member.proofs.laws.fetching_and_inserting_are_the_groups.Goals as goal

pub returns-clause-accepts : goal.returns-clause-accepts
returns-clause-accepts c = accepts_alike

pub returns-clause-takes : goal.returns-clause-takes
returns-clause-takes c = takes_alike

pub returns-clause-starts : goal.returns-clause-starts
returns-clause-starts c = starts_alike
