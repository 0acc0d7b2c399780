use Rattle.std.proofs.Common.{List, refl, ◌<◌, ◌+◌, length, sym, ap, ◌∙◌, subst}
use Rattle.bench_net.specs.SentList.{SentPacket}
use Rattle.group_model.specs.Steps.{after_fire, timer_at, next_sync}
use Rattle.repo_member.specs.MemberState.{MemberState}
use Rattle.bench_world.specs.EventValues.{fired_report}
use Rattle.bench_world.specs.Worlds.{GroupState, IsConsistentState, in_groups, world_of, drawing}
use Rattle.bench_world.specs.Kept.{world_state}
use Rattle.bench_world.specs.Unsettled.{NobodyLacks}
use Rattle.bench_world.proofs.States.{few_draws}
use Rattle.bench_world.proofs.Timers.{fired_world, fired_state, fires_so}
use Rattle.bench_world.proofs.NobodyLacking.{same_lacks}
use Rattle.bench_world.proofs.NobodyLacking.{all_unchanged}
use Rattle.bench_world.proofs.world.World.fire.Goals as goal

pub fire-requires-clause-few : goal.fire-requires-clause-few
fire-requires-clause-few g c =
    let s = world_state c.self.inside in
    let there = subst (λ (x : GroupState). c.args.m < length x.members) (sym c.self.view_is) c.requires.there in
    few_draws s c.self.invariant.consistent c.args.m there c.index_mut-member.result.now
    c.index_mut-member.ensures.value

pub invariant_of-self-2 : goal.invariant_of-self-2
invariant_of-self-2 g c =
    let s = world_state c.self.inside in
    let there = subst (λ (x : GroupState). c.args.m < length x.members) (sym c.self.view_is) c.requires.there in
    let few = subst (λ (x : GroupState). x.steps < 100000) (sym c.self.view_is) c.requires.few in
    record {
      consistent =
          fired_state s c.self.invariant.consistent c.args.m there c.index_mut-member.result.now
          c.index_mut-member.ensures.value
          c.fire.new.self (g.D.Draws.draw c.args.draws.now) c.draw-draw.result
          (c.draw-draw.ensures ∙ ap (g.D.Draws.draw c.args.draws.now c.args.m) c.next_draw.ensures) c.in-Ok.ensures.ok
          c.in-Ok.fire c.in-Ok.ensures.fire
          c.send_fired-happened.new.sent.packets c.reserve.new.self.packets c.in_ok-vector.vector.items
          (ap (λ x. x.packets) c.in_ok-reserve.ensures.ok) (c.in_ok-vector.ensures ∙ c.vector.ensures.known)
          c.send_fired-happened.ensures.sent few;
      nobody_lacks =
          same_lacks c.self.inside.unsettled s.mirrors s.members c.args.m there c.index_mut-member.result.now
          c.index_mut-member.ensures.value c.fire.new.self (ap (λ (a : MemberState). a.store) c.in-Ok.ensures.ok)
          (ap (λ (a : MemberState). a.hidden) c.in-Ok.ensures.ok) c.self.invariant.nobody_lacks;
    }

pub returns : goal.returns
returns g c =
    let s = world_state c.self.inside in
    let there = subst (λ (x : GroupState). c.args.m < length x.members) (sym c.self.view_is) c.requires.there in
    record {
      taken = refl;
      world =
          fired_world s c.self.invariant.consistent c.args.m there c.index_mut-member.result.now
          c.index_mut-member.ensures.value
          c.fire.new.self (g.D.Draws.draw c.args.draws.now) c.draw-draw.result
          (c.draw-draw.ensures ∙ ap (g.D.Draws.draw c.args.draws.now c.args.m) c.next_draw.ensures) c.in-Ok.ensures.ok
          c.in-Ok.fire c.in-Ok.ensures.fire
          c.send_fired-happened.new.sent.packets c.reserve.new.self.packets c.in_ok-vector.vector.items
          (ap (λ x. x.packets) c.in_ok-reserve.ensures.ok) (c.in_ok-vector.ensures ∙ c.vector.ensures.known)
          c.send_fired-happened.ensures.sent
          ∙ ap (λ (x : GroupState).
          after_fire (drawing (g.D.Draws.draw c.args.draws.now)) (world_of x) c.args.m (timer_at (world_of x) c.args.m))
          c.self.view_is;
      report =
          fires_so s c.self.invariant.consistent c.args.m there c.index_mut-member.result.now
          c.index_mut-member.ensures.value
          (length c.reserve.new.self.packets + 1) c.in-Ok.fire _ c.in-Ok.ensures.fire
          c.send_fired-happened.ensures.report
          (ap (λ x. length x.packets + 1) c.in_ok-reserve.ensures.ok)
          ∙ ap (λ (x : GroupState). fired_report c.args.m (next_sync (world_of x)) (timer_at (world_of x) c.args.m))
          c.self.view_is;
      joined = tt;
      steps = ap (λ (x : GroupState). x.steps + 1) c.self.view_is;
      keys = ap (λ (x : GroupState). x.keys) c.self.view_is;
      mirrors = ap (λ (x : GroupState). x.mirrors) c.self.view_is;
      refused = tt;
      err = tt;
    }

pub invariant_of-self-in_default : goal.invariant_of-self-in_default
invariant_of-self-in_default g c =
    let s = world_state c.self.inside in
    let there = subst (λ (x : GroupState). c.args.m < length x.members) (sym c.self.view_is) c.requires.there in
    let back =
    all_unchanged s.members c.args.m there c.index_mut-member.result.now c.index_mut-member.ensures.value
    c.fire.new.self c.in_default.ensures.err in
    record {
      consistent =
          subst (λ (ms : List MemberState).
          IsConsistentState (record s { members = ms; sent = c.reserve.new.self.packets }))
          (sym back)
          (subst (λ (ps : List SentPacket). IsConsistentState (record s { sent = ps }))
          (sym (ap (λ x. x.packets) c.in_ok-reserve.ensures.ok)) c.self.invariant.consistent);
      nobody_lacks =
          subst (λ (ms : List MemberState). NobodyLacks c.self.inside.unsettled (in_groups ms) s.mirrors) (sym back)
          c.self.invariant.nobody_lacks;
    }
