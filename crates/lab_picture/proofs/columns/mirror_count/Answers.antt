use Rattle.std.proofs.Common.{◌∙◌, arith}
use Rattle.bench_world.specs.Worlds.{world_of}
use Rattle.lab_picture.proofs.MirrorCounts.{mirror_counted}
use Rattle.lab_picture.proofs.columns.mirror_count.Goals as goal

pub returns-then-i-mirrors : goal.returns-then-i-mirrors
returns-then-i-mirrors c =
    mirror_counted (world_of c.args.world.now) c.args.world.now.mirrors c.args.i c.entries.result.now
    (omega (arith, c.mirrors.ensures.len)) (c.entries.ensures.entries ∙ c.mirror_catalogue.ensures.lists)
