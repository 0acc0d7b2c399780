use Rattle.std.proofs.Common.{◌≡◌, ◌≤◌, ◌<◌, ℕ, length}
use Rattle.repo_member.specs.MemberState.{member_learns, member_ends_claims}
use Rattle.bench_world.specs.Worlds.{state_at}
use Rattle.bench_world.proofs.sync_exchange.learn_all.Given as goal

abbrev pub invariant-loop-member : goal.invariant-loop-member
invariant-loop-member l = record {
  len : length l.member-items ≡ length l.fn.members.items;
  done : (i : ℕ) → i < l.member-index
      → state_at l.member-items i ≡ member_learns l.known (member_ends_claims (state_at l.fn.members.items i));
  still : (i : ℕ) → l.member-index ≤ i → state_at l.member-items i ≡ state_at l.fn.members.items i;
}
