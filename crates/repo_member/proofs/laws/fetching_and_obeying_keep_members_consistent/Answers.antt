use Rattle.repo_member.proofs.ConsistentChanges.{inserts_consistent, deletes_consistent, obeys_consistent}
use Rattle.repo_member.proofs.ConsistentChanges.{ends_claims_consistent, claims_consistent, loses_consistent}
use Rattle.repo_member.proofs.ConsistentChanges.{accepts_consistent, takes_consistent}
use Rattle.repo_member.proofs.laws.fetching_and_obeying_keep_members_consistent.Goals as goal

pub returns-clause-inserts : goal.returns-clause-inserts
returns-clause-inserts c = inserts_consistent

pub returns-clause-deletes : goal.returns-clause-deletes
returns-clause-deletes c = deletes_consistent

pub returns-clause-obeys : goal.returns-clause-obeys
returns-clause-obeys c = obeys_consistent

pub returns-clause-ends_claims : goal.returns-clause-ends_claims
returns-clause-ends_claims c = ends_claims_consistent

pub returns-clause-claims : goal.returns-clause-claims
returns-clause-claims c = claims_consistent

pub returns-clause-loses : goal.returns-clause-loses
returns-clause-loses c = loses_consistent

pub returns-clause-accepts : goal.returns-clause-accepts
returns-clause-accepts c = accepts_consistent

pub returns-clause-takes : goal.returns-clause-takes
returns-clause-takes c = takes_consistent
