use Rattle.std.proofs.Common.{◌<◌, length, sym, ap, ◌∙◌, subst}
use Rattle.std.proofs.lemmas.List.{get_or_default}
use Rattle.group_model.specs.World.{logs}
use Rattle.repo_mirror.specs.Mirrors.{mirror_catalogue}
use Rattle.repo_holdings.specs.Listed.{member_catalogue}
use Rattle.repo_mirror.specs.MirrorState.{MirrorState}
use Rattle.repo_mirror.specs.ConsistentMirrors.{mirror_in_group}
use Rattle.repo_mirror.proofs.PublicLaws.{mirrors_list_alike}
use Rattle.bench_world.specs.MirrorSteps.{mirror_at, no_mirror}
use Rattle.bench_world.specs.Worlds.{GroupState, logs_around, world_of}
use Rattle.bench_world.specs.Kept.{world_state}
use Rattle.bench_world.proofs.world.World.mirror_catalogue.Goals as goal

pub returns-clause-same : goal.returns-clause-same
returns-clause-same c =
    let s = world_state c.self.inside in
    let there = subst (λ (x : GroupState). c.args.i < length x.mirrors) (sym c.self.view_is) c.requires.there in
    c.catalogue.ensures.whole
    ∙ ap (λ (m : MirrorState). member_catalogue m.store)
    (c.index.ensures ∙ get_or_default s.mirrors c.args.i c.index.result.now no_mirror there)
    ∙ ap (λ (x : GroupState). member_catalogue (mirror_at x.mirrors c.args.i).store) c.self.view_is

pub returns-clause-lists : goal.returns-clause-lists
returns-clause-lists c =
    let s = world_state c.self.inside in
    let there = subst (λ (x : GroupState). c.args.i < length x.mirrors) (sym c.self.view_is) c.requires.there in
    c.catalogue.ensures.whole
    ∙ ap (λ (m : MirrorState). member_catalogue m.store)
    (c.index.ensures ∙ get_or_default s.mirrors c.args.i c.index.result.now no_mirror there)
    ∙ mirrors_list_alike s.keys (logs_around s.members) (mirror_at s.mirrors c.args.i) c.self.invariant.consistent.are
    (c.self.invariant.consistent.mirrors c.args.i no_mirror there)
    ∙ ap (λ (x : GroupState). mirror_catalogue (mirror_at x.mirrors c.args.i).pattern (logs (world_of x))
    (mirror_in_group (mirror_at x.mirrors c.args.i))) c.self.view_is
