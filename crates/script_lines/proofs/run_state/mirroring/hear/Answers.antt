use Rattle.std.proofs.Common.{ℕ, List, ap, map, sym}
use Rattle.group_model.specs.World.{sent_at}
use Rattle.repo_mirror.specs.MirrorState.{MirrorState}
use Rattle.bench_world.specs.MirrorSteps.{mirror_at, mirror_learns}
use Rattle.bench_world.specs.Worlds.{GroupState, world_of}
use Rattle.script_story.specs.Mirrors.{mirror_as, mirror_hears, mirror_of}
use Rattle.script_lines.proofs.MirrorWorlds.{at_as, set_as}
use Rattle.script_lines.proofs.run_state.mirroring.hear.Goals as goal

pub returns-clause-mirrors : goal.returns-clause-mirrors
returns-clause-mirrors c =
    let old : List MirrorState = c.args.world.now.mirrors in
    let printed : List ℕ = (sent_at (world_of c.args.world.now) c.args.k).vector in
    set_as old c.mirror_learns.new.self.mirrors c.args.i (mirror_learns printed (mirror_at old c.args.i))
    (mirror_hears printed (mirror_of (map mirror_as old) c.args.i))
    (ap (λ (s : GroupState). s.mirrors) c.in_ok-mirror_learns.ensures.ok)
    (ap (mirror_hears printed) (sym (at_as old c.args.i c.requires.there)))
