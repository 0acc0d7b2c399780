use Rattle.std.proofs.Common.{◌≡◌, take}
use Rattle.bench_world.proofs.numbers.numbers.Given as goal

abbrev pub invariant-loop-member : goal.invariant-loop-member
invariant-loop-member l = l.numbers.items ≡ take l.member l.vector
