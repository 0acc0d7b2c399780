use Rattle.repo_object.proofs.Passing.{passes, verdict_of, passing_stated, passing_index}
use Rattle.repo_object.proofs.laws.passing_is_every_check.Goals as goal

pub returns-clause-checks : goal.returns-clause-checks
returns-clause-checks c =
    λ want key_name key octets d. (passes want key_name key octets d, verdict_of want key_name key octets d)

pub returns-clause-stated : goal.returns-clause-stated
returns-clause-stated c = passing_stated

pub returns-clause-lists : goal.returns-clause-lists
returns-clause-lists c = passing_index
