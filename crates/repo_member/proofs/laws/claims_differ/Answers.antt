use Rattle.repo_plan.specs.Calls.{ClaimsOnce}
use Rattle.repo_member.specs.MemberState.{member_plan}
use Rattle.repo_member.proofs.CallReach.{in_every_member, claims_once}
use Rattle.repo_member.proofs.laws.claims_differ.Goals as goal

pub returns : goal.returns
returns c = in_every_member (λ g a. ClaimsOnce (member_plan a)) claims_once
