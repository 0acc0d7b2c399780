use Rattle.repo_member.proofs.ConsistentSyncs.{keys_are_found, syncs_are_received, syncs_are_taken}
use Rattle.repo_member.proofs.laws.syncs_of_members_are_taken.Goals as goal

pub returns-clause-keys : goal.returns-clause-keys
returns-clause-keys c = keys_are_found

pub returns-clause-received : goal.returns-clause-received
returns-clause-received c = syncs_are_received

pub returns-clause-taken : goal.returns-clause-taken
returns-clause-taken c = syncs_are_taken
