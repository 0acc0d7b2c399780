use Rattle.std.proofs.Common.{map}
use Rattle.bench_world.specs.Worlds.{world_of}
use Rattle.script_story.specs.Mirrors.{mirror_as}
use Rattle.lab_picture.specs.Sights.{count_at}
use Rattle.lab_picture.proofs.Belows.{none_below, numbers_go_on}
use Rattle.lab_picture.proofs.columns.counts_of.Goals as goal

pub loop-column-init : goal.loop-column-init
loop-column-init c = let e = none_below
    (count_at c.args.words.now (world_of c.args.world.now) (map mirror_as c.args.world.now.mirrors)) in cc

pub loop-column-preserved : goal.loop-column-preserved
loop-column-preserved c = numbers_go_on c.loop-column.counts.items c.push.new.self.items c.loop-column.column
    c.count_at.result
    (count_at c.args.words.now (world_of c.args.world.now) (map mirror_as c.args.world.now.mirrors))
    c.loop-column.invariant c.in_ok-push.ensures.items c.count_at.ensures
