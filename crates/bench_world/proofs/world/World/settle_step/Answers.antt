use Rattle.std.proofs.Common.{◌≡◌, ◌<◌, ◌+◌, length, refl, sym, ap, ◌∙◌, subst, arith}
use Rattle.std.proofs.lemmas.List.{length-map}
use Rattle.group_model.specs.Steps.{after_gathering, after_settle}
use Rattle.repo_member.specs.MemberState.{MemberState}
use Rattle.bench_world.specs.Serving.{environment, lossless}
use Rattle.repo_member.specs.InGroup.{in_group}
use Rattle.bench_world.specs.EventValues.{ReportValue}
use Rattle.bench_world.specs.Worlds.{GroupState, in_groups, world_of}
use Rattle.bench_world.specs.Kept.{world_state}
use Rattle.bench_world.proofs.Resets.{all_few, reset_world, reset_joined, reset_state}
use Rattle.bench_world.proofs.NobodyLacking.{alike_lacks}
use Rattle.bench_world.proofs.world.World.settle_step.Goals as goal

pub reset_all-requires-clause-draws : goal.reset_all-requires-clause-draws
reset_all-requires-clause-draws g c = all_few (world_state c.self-2.inside) c.self-2.invariant.consistent

pub invariant_of-self : goal.invariant_of-self
invariant_of-self g c =
    let s = world_state c.self.inside in
    let few = subst (λ (x : GroupState). x.steps < 100000) (sym c.self.view_is) c.requires.few in
    let mid =
    ap world_of c.self-2.view_is
    ∙ c.in-Ok.ensures.world
    ∙ ap (λ (x : GroupState). after_gathering (lossless x.keys) (world_of x)) (sym c.self.view_is) in
    let steps =
    ap (λ (x : GroupState). x.steps) c.self-2.view_is
    ∙ c.settle.ensures.steps
    ∙ ap (λ (x : GroupState). x.steps + 1) (sym c.self.view_is) in
    record {
      consistent =
          reset_state s c.self.invariant.consistent few (g.D.Draws.draw c.args.draws.now)
          (g.N.Net.passes c.args.net.now)
          (world_state c.self-2.inside) c.self-2.invariant.consistent mid steps c.reset_all.new.members.items
          c.reset_all.ensures.len
          c.reset_all.ensures.each;
      nobody_lacks =
          alike_lacks c.self-2.inside.unsettled (world_state c.self-2.inside).mirrors
          (world_state c.self-2.inside).members c.reset_all.new.members.items
          c.reset_all.ensures.len (λ j l. ap (λ (a : MemberState). a.store) (c.reset_all.ensures.each j l))
          (λ j l. ap (λ (a : MemberState). a.hidden) (c.reset_all.ensures.each j l)) c.self-2.invariant.nobody_lacks;
    }

pub returns : goal.returns
returns g c =
    let s = world_state c.self.inside in
    let few = subst (λ (x : GroupState). x.steps < 100000) (sym c.self.view_is) c.requires.few in
    let mid =
    ap world_of c.self-2.view_is
    ∙ c.in-Ok.ensures.world
    ∙ ap (λ (x : GroupState). after_gathering (lossless x.keys) (world_of x)) (sym c.self.view_is) in
    let steps =
    ap (λ (x : GroupState). x.steps) c.self-2.view_is
    ∙ c.settle.ensures.steps
    ∙ ap (λ (x : GroupState). x.steps + 1) (sym c.self.view_is) in
    let among = length-map c.self.inside.members.items in_group in
    let same = ap (λ (x : GroupState). length (in_groups x.members)) c.self.view_is in
    let syncs : c.len-syncs.result ≡ length (in_groups c.args.self.now.members) =
    omega (arith, c.len-syncs.ensures, c.self.inside.members.ok, among, same) in
    record {
      taken = refl;
      world =
          reset_world s c.self.invariant.consistent few (g.D.Draws.draw c.args.draws.now)
          (g.N.Net.passes c.args.net.now)
          (world_state c.self-2.inside) c.self-2.invariant.consistent mid steps c.reset_all.new.members.items
          c.reset_all.ensures.len
          c.reset_all.ensures.each
          ∙ ap (λ (x : GroupState).
          after_settle (environment x.keys (g.D.Draws.draw c.args.draws.now) (g.N.Net.passes c.args.net.now))
          (world_of x))
          c.self.view_is;
      report = λ i. ReportValue.Settle (syncs i) (c.in-Ok.ensures.parts i);
      joined =
          reset_joined s c.self.invariant.consistent few (g.D.Draws.draw c.args.draws.now)
          (g.N.Net.passes c.args.net.now)
          (world_state c.self-2.inside) c.self-2.invariant.consistent mid steps c.reset_all.new.members.items
          c.reset_all.ensures.len
          c.reset_all.ensures.each;
      steps = ap (λ (x : GroupState). x.steps) c.self-2.view_is ∙ c.settle.ensures.steps;
      keys = ap (λ (x : GroupState). x.keys) c.self-2.view_is ∙ c.settle.ensures.keeps.keys;
      mirrors = ap (λ (x : GroupState). x.mirrors) c.self-2.view_is ∙ c.settle.ensures.keeps.mirrors;
      refused = tt;
      err = tt;
    }
