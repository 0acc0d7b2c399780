use Rattle.std.proofs.Common.{◌≡◌, map}
use Rattle.sorted_lists.specs.Range.{numbers_from}
use Rattle.script_story.specs.Mirrors.{mirror_as}
use Rattle.bench_world.specs.Worlds.{world_of}
use Rattle.lab_capture.specs.Capturings.{holder_of}
use Rattle.lab_capture.specs.Frames.{mirror_in}
use Rattle.lab_capture.proofs.mirrored.all_mirrors.Given as goal

abbrev pub invariant-loop-mirror : goal.invariant-loop-mirror
invariant-loop-mirror l = map holder_of l.holders.items
    ≡ map (mirror_in (world_of l.world) (map mirror_as l.world.mirrors)) (numbers_from 0 l.mirror)
