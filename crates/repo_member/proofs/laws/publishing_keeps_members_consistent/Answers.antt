use Rattle.repo_member.proofs.ConsistentChanges.{begins_consistent, publishes_consistent, others_publish}
use Rattle.repo_member.proofs.ConsistentChanges.{logs_have_grown, blocks_consistent}
use Rattle.repo_member.proofs.laws.publishing_keeps_members_consistent.Goals as goal

pub returns-clause-begins : goal.returns-clause-begins
returns-clause-begins c = begins_consistent

pub returns-clause-publishes : goal.returns-clause-publishes
returns-clause-publishes c = publishes_consistent

pub returns-clause-blocks : goal.returns-clause-blocks
returns-clause-blocks c = blocks_consistent

pub returns-clause-others : goal.returns-clause-others
returns-clause-others c = others_publish

pub returns-clause-grown : goal.returns-clause-grown
returns-clause-grown c = logs_have_grown
