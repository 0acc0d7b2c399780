use Rattle.std.proofs.Common.{◌<◌, length, sym, ap, ◌∙◌, subst}
use Rattle.std.proofs.lemmas.List.{get_or_default}
use Rattle.bench_world.specs.MirrorSteps.{mirror_at, no_mirror}
use Rattle.bench_world.specs.Worlds.{GroupState}
use Rattle.bench_world.specs.Kept.{world_state}
use Rattle.bench_world.proofs.world.World.mirror.Goals as goal

pub returns : goal.returns
returns c =
    let s = world_state c.self.inside in
    let there = subst (λ (x : GroupState). c.args.i < length x.mirrors) (sym c.self.view_is) c.requires.there in
    c.index.ensures ∙ get_or_default s.mirrors c.args.i c.index.result.now no_mirror there
    ∙ ap (λ (x : GroupState). mirror_at x.mirrors c.args.i) c.self.view_is
