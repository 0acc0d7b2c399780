use Rattle.std.proofs.Common.{◌≡◌, ◌≤◌, ◌<◌, ℕ, length}
use Rattle.repo_member.specs.MemberState.{member_resets}
use Rattle.bench_world.specs.Worlds.{state_at}
use Rattle.bench_world.proofs.settling.reset_all.Given as goal

abbrev pub invariant-loop-j : goal.invariant-loop-j
invariant-loop-j g l = record {
  len : length l.member-items ≡ length l.fn.members.items;
  done : (i : ℕ) → i < l.j
      → state_at l.member-items i
      ≡ member_resets l.time (g.D.Draws.draw l.draws i (state_at l.fn.members.items i).machine.draws)
      (state_at l.fn.members.items i);
  still : (i : ℕ) → l.j ≤ i → state_at l.member-items i ≡ state_at l.fn.members.items i;
}
