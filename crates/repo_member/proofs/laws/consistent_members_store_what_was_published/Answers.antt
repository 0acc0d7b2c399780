use Rattle.repo_member.proofs.ConsistentMembers.{consistent_is_member_state, consistent_is_of, consistent_stores}
use Rattle.repo_member.proofs.ConsistentMembers.{stores_those, logs_those}
use Rattle.repo_member.proofs.laws.consistent_members_store_what_was_published.Goals as goal

pub returns-clause-member_state : goal.returns-clause-member_state
returns-clause-member_state c = consistent_is_member_state

pub returns-clause-group : goal.returns-clause-group
returns-clause-group c = consistent_is_of

pub returns-clause-consistent : goal.returns-clause-consistent
returns-clause-consistent c = consistent_stores

pub returns-clause-stores : goal.returns-clause-stores
returns-clause-stores c = stores_those

pub returns-clause-logs : goal.returns-clause-logs
returns-clause-logs c = logs_those
