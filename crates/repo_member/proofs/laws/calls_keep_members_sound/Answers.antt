use Rattle.repo_plan.specs.Sound.{PlanIsSound}
use Rattle.repo_member.specs.MemberState.{IsMemberState, ArePosts, IsOfGroup, member_plan}
use Rattle.repo_member.specs.Blocks.{AreWithinLimits}
use Rattle.repo_member.proofs.CallReach.{in_every_member}
use Rattle.repo_member.proofs.laws.calls_keep_members_sound.Goals as goal

pub returns-clause-member_state : goal.returns-clause-member_state
returns-clause-member_state c = in_every_member (λ g a. IsMemberState a) (λ g a r. r.member_state)

pub returns-clause-group : goal.returns-clause-group
returns-clause-group c = in_every_member IsOfGroup (λ g a r. r.of)

pub returns-clause-plan : goal.returns-clause-plan
returns-clause-plan c = in_every_member (λ g a. PlanIsSound (member_plan a)) (λ g a r. r.sound)

pub returns-clause-posts : goal.returns-clause-posts
returns-clause-posts c = in_every_member (λ g a. ArePosts a.log) (λ g a r. r.posts)

pub returns-clause-insertions : goal.returns-clause-insertions
returns-clause-insertions c = in_every_member (λ g a. AreWithinLimits a.insertions.processes) (λ g a r. r.insertions)
