use Rattle.repo_member.specs.Calls.{OthersPassed, OwnStored}
use Rattle.repo_member.proofs.CallReach.{in_every_member}
use Rattle.repo_member.proofs.CallPackets.{held_packets_stay, own_stored}
use Rattle.repo_member.proofs.laws.held_parts_passed_their_checks.Goals as goal

pub returns-clause-others : goal.returns-clause-others
returns-clause-others c = in_every_member OthersPassed (λ g a r. r.others)

pub returns-clause-own : goal.returns-clause-own
returns-clause-own c = in_every_member OwnStored own_stored

pub returns-clause-stay : goal.returns-clause-stay
returns-clause-stay c = held_packets_stay
