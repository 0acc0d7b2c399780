use Rattle.std.proofs.Common.{◌≡◌, ◌++◌, map, take}
use Rattle.std.specs.List.{flat_map}
use Rattle.bench_world.specs.Worlds.{world_of}
use Rattle.lab_capture.specs.Capturings.{asked_by}
use Rattle.lab_capture.specs.Frames.{came, frames_text}
use Rattle.lab_capture.proofs.frames.put_all.Given as goal

abbrev pub invariant-loop-job : goal.invariant-loop-job
invariant-loop-job l = l.out.items ≡ l.fn.out.items ++ frames_text
    (flat_map (came l.world.keys (world_of l.world) l.m) (map asked_by (take l.job-index l.jobs)))
