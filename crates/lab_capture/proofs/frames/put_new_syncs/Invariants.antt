use Rattle.std.proofs.Common.{◌≡◌, ◌+◌, ◌++◌}
use Rattle.std.specs.List.{flat_map}
use Rattle.sorted_lists.specs.Range.{numbers_from}
use Rattle.bench_world.specs.Worlds.{world_of}
use Rattle.lab_capture.specs.declared.station.Station.TheVariants.{AllMembers}
use Rattle.lab_capture.specs.Frames.{frames_text, sync_to}
use Rattle.lab_capture.proofs.frames.put_new_syncs.Given as goal

abbrev pub invariant-loop-i : goal.invariant-loop-i
invariant-loop-i l = l.out.items ≡ l.fn.out.items ++ frames_text
    (flat_map (sync_to l.world.keys (world_of l.world) AllMembers) (numbers_from (l.sent + 1) l.i))
