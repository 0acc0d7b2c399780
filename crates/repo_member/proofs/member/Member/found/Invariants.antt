use Rattle.std.proofs.Common.{◌≡◌, true, false, take, length}
use Rattle.std.specs.List.{All}
use Rattle.repo_plan.specs.Plan.{knows, claims_part_in}
use Rattle.repo_member.specs.MemberState.{member_plan}
use Rattle.repo_holdings.specs.Listed.{is_withdrawal}
use Rattle.repo_holdings.specs.Hiding.{outside_all}
use Rattle.repo_member.proofs.member.Member.found.Given as goal

abbrev pub invariant-loop-publisher : goal.invariant-loop-publisher
invariant-loop-publisher l =
    let so_far = take l.publisher-index l.publisher-items in record {
      left : l.left ≡ length (outside_all so_far l.self.store);
      known : All (λ pair. knows (member_plan l.self) pair ≡ true) so_far;
      unclaimed : All (λ pair. claims_part_in (member_plan l.self) pair ≡ false) so_far;
      objects : All (λ pair. is_withdrawal l.self.store pair ≡ false) so_far;
    }
