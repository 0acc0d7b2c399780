use Rattle.std.proofs.Common.{◌≡◌, map, length}
use Rattle.sorted_lists.specs.Range.{numbers_from}
use Rattle.bench_world.specs.Worlds.{begun_one}
use Rattle.bench_world.proofs.world.begin_all.Given as goal

abbrev pub invariant-loop-number : goal.invariant-loop-number
invariant-loop-number g l =
    l.members.items ≡ map (begun_one (length l.g.members.names) (g.D.Draws.draw l.draws)) (numbers_from 0 l.number)
