use Rattle.std.proofs.Common.{◌≡◌, ◌++◌, map, take}
use Rattle.std.specs.List.{flat_map}
use Rattle.script_story.specs.Mirrors.{mirror_as}
use Rattle.bench_world.specs.Worlds.{world_of}
use Rattle.lab_capture.specs.Capturings.{holder_of}
use Rattle.lab_capture.specs.Frames.{frames_text, mirror_parts}
use Rattle.lab_capture.proofs.mirrored.put_new_stored.Given as goal

abbrev pub invariant-loop-mirror : goal.invariant-loop-mirror
invariant-loop-mirror l = l.out.items ≡ l.fn.out.items ++ frames_text
    (flat_map (mirror_parts l.world.keys (world_of l.world) (map mirror_as l.world.mirrors))
    (map holder_of (take l.mirror-index l.mirrors)))
