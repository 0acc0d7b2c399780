use Rattle.std.proofs.Common.{map}
use Rattle.script_story.specs.Mirrors.{mirror_as}
use Rattle.bench_world.specs.Worlds.{world_of}
use Rattle.lab_capture.specs.Capturings.{holder_of}
use Rattle.lab_capture.specs.Frames.{mirror_in}
use Rattle.lab_capture.proofs.Texts.{mapped_more}
use Rattle.lab_capture.proofs.mirrored.all_mirrors.Goals as goal

pub loop-mirror-preserved : goal.loop-mirror-preserved
loop-mirror-preserved c = mapped_more holder_of
    (mirror_in (world_of c.args.world.now) (map mirror_as c.args.world.now.mirrors)) c.loop-mirror.mirror
    c.loop-mirror.holders.items c.push.new.self.items c.in_ok-mirror_in.field-0 c.loop-mirror.invariant
    c.in_ok-mirror_in.ensures c.in_ok-push.ensures.items
