use Rattle.repo_member.proofs.ConsistentMembers.{accepts_the_claimed, takes_the_consistent}
use Rattle.repo_member.proofs.laws.claimed_parts_are_accepted.Goals as goal

pub returns-clause-claimed : goal.returns-clause-claimed
returns-clause-claimed c = accepts_the_claimed

pub returns-clause-taken : goal.returns-clause-taken
returns-clause-taken c = takes_the_consistent
