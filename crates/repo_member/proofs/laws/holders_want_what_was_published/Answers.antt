use Rattle.repo_member.proofs.ConsistentHolders.{member_is_holder, holder_stores_consistently, holder_stores_those}
use Rattle.repo_member.proofs.ConsistentHolders.{holders_want_published, holders_want_consistently}
use Rattle.repo_member.proofs.ConsistentHolders.{packets_pass_for_holders}
use Rattle.repo_member.proofs.laws.holders_want_what_was_published.Goals as goal

pub returns-clause-members : goal.returns-clause-members
returns-clause-members c = member_is_holder

pub returns-clause-consistent : goal.returns-clause-consistent
returns-clause-consistent c = holder_stores_consistently

pub returns-clause-stores : goal.returns-clause-stores
returns-clause-stores c = holder_stores_those

pub returns-clause-published : goal.returns-clause-published
returns-clause-published c = holders_want_published

pub returns-clause-wants : goal.returns-clause-wants
returns-clause-wants c = holders_want_consistently

pub returns-clause-passes : goal.returns-clause-passes
returns-clause-passes c = packets_pass_for_holders
