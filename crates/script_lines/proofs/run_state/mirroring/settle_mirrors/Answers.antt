use Rattle.bench_world.specs.MirrorSteps.{mirror_at}
use Rattle.bench_world.specs.Worlds.{world_of}
use Rattle.script_story.specs.Mirrors.{mirror_settles}
use Rattle.script_lines.proofs.MirrorSettles.{settled_as}
use Rattle.script_lines.proofs.MirrorWorlds.{all_as}
use Rattle.script_lines.proofs.run_state.mirroring.settle_mirrors.Goals as goal

pub returns-clause-mirrors : goal.returns-clause-mirrors
returns-clause-mirrors g c =
    all_as c.args.world.now.mirrors c.settle_mirrors.new.self.mirrors (mirror_settles (world_of c.args.world.now))
    c.settle_mirrors.ensures.len (λ i there.
    settled_as (world_of c.args.world.now) c.cite_soundness.ensures.sound (mirror_at c.args.world.now.mirrors i)
    (mirror_at c.settle_mirrors.new.self.mirrors i) (c.in_ok-settle_mirrors.ensures.settled i there))
