use Rattle.std.proofs.Common.{◌≡◌, map}
use Rattle.bench_world.specs.Worlds.{world_of}
use Rattle.script_story.specs.Mirrors.{mirror_as}
use Rattle.lab_picture.specs.Sights.{count_at, numbers_below}
use Rattle.lab_picture.proofs.columns.counts_of.Given as goal

abbrev pub invariant-loop-column : goal.invariant-loop-column
invariant-loop-column l =
    l.counts.items ≡ numbers_below l.column (count_at l.words (world_of l.world) (map mirror_as l.world.mirrors))
