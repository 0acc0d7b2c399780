use Rattle.repo_member.proofs.HolderTakes.{fetched_are_stored, holders_take_consistently}
use Rattle.repo_member.proofs.OutcomeLemmas.{members_take_all}
use Rattle.repo_member.proofs.laws.holders_take_what_was_published.Goals as goal

pub returns-clause-stored : goal.returns-clause-stored
returns-clause-stored c = fetched_are_stored

pub returns-clause-members : goal.returns-clause-members
returns-clause-members c = members_take_all

pub returns-clause-consistent : goal.returns-clause-consistent
returns-clause-consistent c = holders_take_consistently
