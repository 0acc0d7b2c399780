use Rattle.std.proofs.Common.{◌≡◌, ◌≤◌, ◌+◌, ◌-◌, ◌*◌, length}
use Rattle.std.specs.List.{sum_by}
use Rattle.sorted_lists.specs.Range.{numbers_from}
use Rattle.group_model.specs.World.{catalogue_at}
use Rattle.bench_world.specs.Worlds.{world_of}
use Rattle.lab_seeds.proofs.counted.listed_entries.Given as goal

abbrev pub invariant-loop-member : goal.invariant-loop-member
invariant-loop-member l = record {
  so_far : l.listed + sum_by (λ j. length (catalogue_at (world_of l.world) j))
      (numbers_from l.member (l.count - l.member))
      ≡ sum_by (λ j. length (catalogue_at (world_of l.world) j)) (numbers_from 0 l.count);
  few : l.listed ≤ l.member * 100000;
}
