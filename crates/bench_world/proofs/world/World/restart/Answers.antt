use Rattle.std.proofs.Common.{rules, refl, ◌<◌, length, sym, ap, ◌∙◌, subst, ◌+◌}
use Rattle.group_model.specs.Steps.{after_restart}
use Rattle.repo_member.specs.MemberState.{MemberState}
use Rattle.bench_world.specs.Worlds.{GroupState, world_of, drawing}
use Rattle.bench_world.specs.Kept.{world_state}
use Rattle.bench_world.proofs.States.{few_draws}
use Rattle.bench_world.proofs.Timers.{restarted_world, restarted_state}
use Rattle.bench_world.proofs.NobodyLacking.{same_lacks}
use Rattle.bench_world.proofs.world.World.restart.Goals as goal

pub restart-requires-clause-few : goal.restart-requires-clause-few
restart-requires-clause-few g c =
    let s = world_state c.self.inside in
    let there = subst (λ (x : GroupState). c.args.m < length x.members) (sym c.self.view_is) c.requires.there in
    few_draws s c.self.invariant.consistent c.args.m there c.index_mut-member.result.now
    c.index_mut-member.ensures.value

pub invariant_of-self : goal.invariant_of-self
invariant_of-self g c =
    let s = world_state c.self.inside in
    let there = subst (λ (x : GroupState). c.args.m < length x.members) (sym c.self.view_is) c.requires.there in
    let few = subst (λ (x : GroupState). x.steps < 100000) (sym c.self.view_is) c.requires.few in
    record {
      consistent =
          restarted_state s c.self.invariant.consistent c.args.m there c.index_mut-member.result.now
          c.index_mut-member.ensures.value
          c.restart.new.self (g.D.Draws.draw c.args.draws.now) c.draw-draw.result
          (c.draw-draw.ensures ∙ ap (g.D.Draws.draw c.args.draws.now c.args.m) c.next_draw.ensures) c.restart.ensures
          few;
      nobody_lacks =
          same_lacks c.self.inside.unsettled s.mirrors s.members c.args.m there c.index_mut-member.result.now
          c.index_mut-member.ensures.value c.restart.new.self (ap (λ (a : MemberState). a.store) c.restart.ensures)
          (ap (λ (a : MemberState). a.hidden) c.restart.ensures) c.self.invariant.nobody_lacks;
    }

pub returns : goal.returns
returns g c =
    let s = world_state c.self.inside in
    let there = subst (λ (x : GroupState). c.args.m < length x.members) (sym c.self.view_is) c.requires.there in
    record {
      taken = refl;
      world =
          restarted_world s c.self.invariant.consistent c.args.m there c.index_mut-member.result.now
          c.index_mut-member.ensures.value
          c.restart.new.self (g.D.Draws.draw c.args.draws.now) c.draw-draw.result
          (c.draw-draw.ensures ∙ ap (g.D.Draws.draw c.args.draws.now c.args.m) c.next_draw.ensures) c.restart.ensures
          ∙ ap (λ (x : GroupState). after_restart (drawing (g.D.Draws.draw c.args.draws.now)) (world_of x) c.args.m)
          c.self.view_is;
      report = search rules;
      joined = tt;
      steps = ap (λ (x : GroupState). x.steps + 1) c.self.view_is;
      keys = ap (λ (x : GroupState). x.keys) c.self.view_is;
      mirrors = ap (λ (x : GroupState). x.mirrors) c.self.view_is;
      refused = tt;
      err = tt;
    }
