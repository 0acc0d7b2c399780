use Rattle.std.proofs.Common.{◌<◌, ◌+◌, length, None, sym, ap, ◌∙◌, subst, arith}
use Rattle.std.proofs.lemmas.Grind.{common_steps}
use Rattle.group_model.specs.World.{member, with_member}
use Rattle.group_model.specs.Changes.{member_with_claim}
use Rattle.repo_member.specs.MemberState.{MemberState}
use Rattle.bench_world.specs.Worlds.{GroupState, world_of}
use Rattle.bench_world.specs.Kept.{world_state}
use Rattle.bench_world.proofs.Claims.{lost_world, lost_state}
use Rattle.bench_world.proofs.NobodyLacking.{same_lacks}
use Rattle.bench_world.proofs.world.World.lose.Goals as goal

pub invariant_of-self-2 : goal.invariant_of-self-2
invariant_of-self-2 c =
    let s = world_state c.self.inside in
    let there = subst (λ (x : GroupState). c.args.m < length x.members) (sym c.self.view_is) c.requires.there in
    record {
      consistent =
          lost_state s c.self.invariant.consistent c.args.m there c.index_mut-member.result.now
          c.index_mut-member.ensures.value c.args.f
          c.lose.new.self c.in-Ok.ensures.ok
          (subst (λ (x : GroupState). x.steps < 100000) (sym c.self.view_is) c.requires.few);
      nobody_lacks =
          same_lacks c.self.inside.unsettled s.mirrors s.members c.args.m there c.index_mut-member.result.now
          c.index_mut-member.ensures.value c.lose.new.self (ap (λ (a : MemberState). a.store) c.in-Ok.ensures.ok)
          (ap (λ (a : MemberState). a.hidden) c.in-Ok.ensures.ok) c.self.invariant.nobody_lacks;
    }

pub returns : goal.returns
returns c =
    let s = world_state c.self.inside in
    let there = subst (λ (x : GroupState). c.args.m < length x.members) (sym c.self.view_is) c.requires.there in
    record {
      taken = grind (arith, common_steps);
      world =
          lost_world s c.self.invariant.consistent c.args.m there c.index_mut-member.result.now
          c.index_mut-member.ensures.value
          c.args.f
          c.lose.new.self c.in-Ok.ensures.ok
          ∙ ap (λ (x : GroupState).
          with_member (world_of x) c.args.m (member_with_claim c.args.f None (member (world_of x) c.args.m)))
          c.self.view_is;
      report = grind (arith, common_steps);
      joined = tt;
      steps = ap (λ (x : GroupState). x.steps + 1) c.self.view_is;
      keys = ap (λ (x : GroupState). x.keys) c.self.view_is;
      mirrors = ap (λ (x : GroupState). x.mirrors) c.self.view_is;
      refused = tt;
      err = tt;
    }
