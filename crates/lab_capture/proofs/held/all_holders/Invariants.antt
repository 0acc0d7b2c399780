use Rattle.std.proofs.Common.{◌≡◌, map}
use Rattle.sorted_lists.specs.Range.{numbers_from}
use Rattle.bench_world.specs.Worlds.{world_of}
use Rattle.lab_capture.specs.Capturings.{holder_of}
use Rattle.lab_capture.specs.Frames.{holder_in}
use Rattle.lab_capture.proofs.held.all_holders.Given as goal

abbrev pub invariant-loop-member : goal.invariant-loop-member
invariant-loop-member l =
    map holder_of l.holders.items ≡ map (holder_in (world_of l.world)) (numbers_from 0 l.member)
