use Rattle.repo_member.proofs.ConsistentChanges.{learns_consistent, hears_consistent, restarts_consistent}
use Rattle.repo_member.proofs.ConsistentChanges.{fires_consistent, resets_consistent}
use Rattle.repo_member.proofs.laws.syncing_keeps_members_consistent.Goals as goal

pub returns-clause-learns : goal.returns-clause-learns
returns-clause-learns c = learns_consistent

pub returns-clause-hears : goal.returns-clause-hears
returns-clause-hears c = hears_consistent

pub returns-clause-fires : goal.returns-clause-fires
returns-clause-fires c = fires_consistent

pub returns-clause-resets : goal.returns-clause-resets
returns-clause-resets c = resets_consistent

pub returns-clause-restarts : goal.returns-clause-restarts
returns-clause-restarts c = restarts_consistent
