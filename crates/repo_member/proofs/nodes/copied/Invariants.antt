use Rattle.std.proofs.Common.{◌≡◌, take}
use Rattle.repo_member.proofs.nodes.copied.Given as goal

abbrev pub invariant-loop-number : goal.invariant-loop-number
invariant-loop-number l = l.copy ≡ take l.number l.ring
