use Rattle.std.proofs.Common.{◌≡◌, ◌++◌, map, take}
use Rattle.std.specs.List.{flat_map}
use Rattle.bench_world.specs.Worlds.{world_of}
use Rattle.lab_capture.specs.Capturings.{holder_of}
use Rattle.lab_capture.specs.Frames.{frames_text, new_parts}
use Rattle.lab_capture.proofs.gains.put_new_parts.Given as goal

abbrev pub invariant-loop-holder : goal.invariant-loop-holder
invariant-loop-holder l = l.out.items ≡ l.fn.out.items ++ frames_text
    (flat_map (new_parts l.world.keys (world_of l.world)) (map holder_of (take l.holder-index l.holders)))
