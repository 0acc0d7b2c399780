use Rattle.std.proofs.Common.{◌≡◌, ◌<◌, ◌+◌, None, length, refl, sym, ap, ◌∙◌, subst}
use Rattle.group_model.specs.Refusals.{if_busy}
use Rattle.group_model.specs.Steps.{claim_at, to_claim, after_claiming}
use Rattle.repo_member.specs.MemberState.{MemberState}
use Rattle.bench_world.specs.EventValues.{claim_report}
use Rattle.bench_world.specs.Worlds.{GroupState, world_of}
use Rattle.bench_world.specs.Kept.{world_state}
use Rattle.bench_world.proofs.Claims.{claim_is, to_claim_is, claimed_state, claimed_world}
use Rattle.bench_world.proofs.NobodyLacking.{same_lacks}
use Rattle.bench_world.proofs.world.World.claim.Goals as goal

pub invariant_of-self-2 : goal.invariant_of-self-2
invariant_of-self-2 c =
    let s = world_state c.self.inside in
    let there = subst (λ (x : GroupState). c.args.m < length x.members) (sym c.self.view_is) c.requires.there in
    record {
      consistent =
          claimed_state s c.self.invariant.consistent c.args.m there c.index_mut-member.result.now
          c.index_mut-member.ensures.value
          c.args.f c.in-Ok.claim c.in-Ok.ensures.part c.claim.new.self c.in-Ok.ensures.new (c.in-Ok.ensures.idle.0 refl)
          (subst (λ (x : GroupState). x.steps < 100000) (sym c.self.view_is) c.requires.few);
      nobody_lacks =
          same_lacks c.self.inside.unsettled s.mirrors s.members c.args.m there c.index_mut-member.result.now
          c.index_mut-member.ensures.value c.claim.new.self (ap (λ (a : MemberState). a.store) c.in-Ok.ensures.new)
          (ap (λ (a : MemberState). a.hidden) c.in-Ok.ensures.new) c.self.invariant.nobody_lacks;
    }

pub returns : goal.returns
returns c =
    let s = world_state c.self.inside in
    let there = subst (λ (x : GroupState). c.args.m < length x.members) (sym c.self.view_is) c.requires.there in
    record {
      taken =
          subst (λ (x : GroupState). if_busy (claim_at (world_of x) c.args.m c.args.f) ≡ None) c.self.view_is
          (ap if_busy
          (claim_is s c.self.invariant.consistent c.args.m there c.index_mut-member.result.now
          c.index_mut-member.ensures.value
          c.args.f
          ∙ c.in-Ok.ensures.idle.0 refl));
      world =
          claimed_world s c.self.invariant.consistent c.args.m there c.index_mut-member.result.now
          c.index_mut-member.ensures.value
          c.args.f c.in-Ok.claim c.in-Ok.ensures.part c.claim.new.self c.in-Ok.ensures.new (c.in-Ok.ensures.idle.0 refl)
          ∙ ap (λ (x : GroupState). after_claiming (world_of x) c.args.m c.args.f (to_claim (world_of x) c.args.m))
          c.self.view_is;
      report =
          c.claimed.ensures
          ∙ ap (λ k. claim_report c.args.m k c.in-Ok.claim) c.from.ensures
          ∙ ap (claim_report c.args.m c.args.f)
          (c.in-Ok.ensures.part
          ∙ sym
          (to_claim_is s c.self.invariant.consistent c.args.m there c.index_mut-member.result.now
          c.index_mut-member.ensures.value))
          ∙ ap (λ (x : GroupState). claim_report c.args.m c.args.f (to_claim (world_of x) c.args.m)) c.self.view_is;
      joined = tt;
      steps = ap (λ (x : GroupState). x.steps + 1) c.self.view_is;
      keys = ap (λ (x : GroupState). x.keys) c.self.view_is;
      mirrors = ap (λ (x : GroupState). x.mirrors) c.self.view_is;
      refused = tt;
      err = tt;
    }
