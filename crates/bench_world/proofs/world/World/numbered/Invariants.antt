use Rattle.std.proofs.Common.{◌≡◌}
use Rattle.sorted_lists.specs.Range.{numbers_from}
use Rattle.bench_world.proofs.world.World.numbered.Given as goal

abbrev pub invariant-loop-number : goal.invariant-loop-number
invariant-loop-number l = l.numbers.items ≡ numbers_from 0 l.number
