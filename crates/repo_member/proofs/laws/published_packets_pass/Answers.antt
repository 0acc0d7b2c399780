use Rattle.repo_member.proofs.PassingPackets.{packets_are_there, packets_pass}
use Rattle.repo_member.proofs.ConsistentMembers.{wants_published, wants_are_consistent, packets_pass_for_members}
use Rattle.repo_member.proofs.laws.published_packets_pass.Goals as goal

pub returns-clause-published : goal.returns-clause-published
returns-clause-published c = wants_published

pub returns-clause-wants : goal.returns-clause-wants
returns-clause-wants c = wants_are_consistent

pub returns-clause-there : goal.returns-clause-there
returns-clause-there c = packets_are_there

pub returns-clause-passes : goal.returns-clause-passes
returns-clause-passes c = packets_pass

pub returns-clause-for_members : goal.returns-clause-for_members
returns-clause-for_members c = packets_pass_for_members
