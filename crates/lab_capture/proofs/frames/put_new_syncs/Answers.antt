use Rattle.std.proofs.Common.{◌+◌, arith}
use Rattle.bench_world.specs.Worlds.{world_of}
use Rattle.lab_capture.specs.declared.station.Station.TheVariants.{AllMembers}
use Rattle.lab_capture.specs.Frames.{sync_to}
use Rattle.lab_capture.proofs.Texts.{none_yet, one_more}
use Rattle.lab_capture.proofs.frames.put_new_syncs.Goals as goal

pub loop-i-init : goal.loop-i-init
loop-i-init c = none_yet (sync_to c.args.world.now.keys (world_of c.args.world.now) AllMembers) (c.args.sent + 1)
    c.args.out.now.items

pub loop-i-preserved : goal.loop-i-preserved
loop-i-preserved c = one_more (sync_to c.args.world.now.keys (world_of c.args.world.now) AllMembers)
    (c.args.sent + 1) c.loop-i.i (c.args.sent + 1 + c.loop-i.i) c.args.out.now.items c.loop-i.out.items
    c.put_sync.new.out.items (omega arith) c.loop-i.invariant c.in_ok-put_sync.ensures
