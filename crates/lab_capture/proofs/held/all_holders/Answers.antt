use Rattle.bench_world.specs.Worlds.{world_of}
use Rattle.lab_capture.specs.Capturings.{holder_of}
use Rattle.lab_capture.specs.Frames.{holder_in}
use Rattle.lab_capture.proofs.Texts.{mapped_more}
use Rattle.lab_capture.proofs.held.all_holders.Goals as goal

pub loop-member-preserved : goal.loop-member-preserved
loop-member-preserved c = mapped_more holder_of (holder_in (world_of c.args.world.now)) c.loop-member.member
    c.loop-member.holders.items c.push.new.self.items c.in_ok-holder_in.field-0
    c.loop-member.invariant c.in_ok-holder_in.ensures
    c.in_ok-push.ensures.items
