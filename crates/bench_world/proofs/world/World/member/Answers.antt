use Rattle.std.proofs.Common.{◌<◌, length, sym, ap, ◌∙◌, subst}
use Rattle.group_model.specs.World.{catalogue_at}
use Rattle.repo_member.proofs.PublicLaws.{catalogues_alike}
use Rattle.bench_world.specs.Worlds.{GroupState, world_of}
use Rattle.bench_world.specs.Kept.{world_state}
use Rattle.bench_world.proofs.States.{in_world, consistent_in}
use Rattle.bench_world.proofs.world.World.member.Goals as goal

pub returns-clause-catalogue : goal.returns-clause-catalogue
returns-clause-catalogue c =
    let s = world_state c.self.inside in
    let there = subst (λ (x : GroupState). c.args.m < length x.members) (sym c.self.view_is) c.requires.there in
    sym (catalogues_alike (world_of s) c.args.m s.keys c.index.result.now
    (in_world s c.self.invariant.consistent c.args.m there c.index.result.now c.index.ensures)
    (consistent_in s c.self.invariant.consistent c.args.m there c.index.result.now c.index.ensures))
    ∙ ap (λ (x : GroupState). catalogue_at (world_of x) c.args.m) c.self.view_is
