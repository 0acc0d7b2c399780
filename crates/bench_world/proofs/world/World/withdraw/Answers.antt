use Rattle.std.proofs.Common.{List, rules, arith, ◌≡◌, ◌<◌, ◌+◌, None, Err, length, set, refl, sym, ap, ◌∙◌, subst}
use Rattle.std.proofs.lemmas.Grind.{common_steps}
use Rattle.std.proofs.lemmas.List.{length-map}
use Rattle.repo_object.specs.Objects.Post.{Withdraws}
use Rattle.bench_net.specs.SentList.{SentPacket}
use Rattle.repo_member.specs.MemberState.{MemberState}
use Rattle.group_model.specs.Events.{Event}
use Rattle.group_model.specs.Refusals.{refusal}
use Rattle.group_model.specs.World.{World}
use Rattle.group_model.specs.Steps.{after_event, next_seq_at, next_sync}
use Rattle.bench_world.specs.EventValues.{ReportValue}
use Rattle.bench_world.specs.Steps.{IsFaultOf}
use Rattle.bench_world.specs.Worlds.{GroupState, IsConsistentState, in_groups, sync_in, world_of, drawing}
use Rattle.bench_world.specs.Kept.{world_state}
use Rattle.bench_world.specs.Unsettled.{NobodyLacks}
use Rattle.bench_world.proofs.States.{early, few_draws}
use Rattle.bench_world.proofs.Objects.{withdraw_refused, withdraw_taken, seq_is, sent_is}
use Rattle.bench_world.proofs.Objects.{world_sent, state_sent}
use Rattle.bench_world.proofs.NobodyLacking.{all_unchanged, published_lacks}
use Rattle.bench_world.proofs.world.World.withdraw.Goals as goal

pub withdraw-requires-clause-draws : goal.withdraw-requires-clause-draws
withdraw-requires-clause-draws g c =
    let s = world_state c.self.inside in
    let there = subst (λ (x : GroupState). c.args.m < length x.members) (sym c.self.view_is) c.requires.there in
    record {
      early = early s c.self.invariant.consistent;
      few =
          few_draws s c.self.invariant.consistent c.args.m there c.index_mut-member.result.now
          c.index_mut-member.ensures.value;
    }

pub returns-in-Err : goal.returns-in-Err
returns-in-Err g c =
    let s = world_state c.self.inside in
    let there = subst (λ (x : GroupState). c.args.m < length x.members) (sym c.self.view_is) c.requires.there in
    let event = Event.Withdraw c.args.m c.args.s in
    let refused =
    withdraw_refused s c.self.invariant.consistent c.args.m there c.index_mut-member.result.now
    c.index_mut-member.ensures.value
    c.args.s (g.D.Draws.draw c.args.draws.now) (Err c.in-Err.refusal) c.in-Err.refusal refl c.in-Err.ensures.no_object
    c.in-Err.ensures.spent in
    record {
      taken = tt;
      world = tt;
      report = tt;
      joined = tt;
      steps = tt;
      keys = search rules;
      mirrors = search rules;
      refused =
          subst (λ (x : GroupState).
          IsFaultOf (refusal (drawing (g.D.Draws.draw c.args.draws.now)) (world_of x) event) c.fault_of.result)
          c.self.view_is
          (subst (IsFaultOf (refusal (drawing (g.D.Draws.draw c.args.draws.now)) (world_of s) event))
          (sym c.fault_of.ensures) refused);
      err = grind (arith, common_steps);
    }

pub invariant_of-self-2 : goal.invariant_of-self-2
invariant_of-self-2 g c =
    let s = world_state c.self.inside in
    let few = subst (λ (x : GroupState). x.steps < 100000) (sym c.self.view_is) c.requires.few in
    let there = subst (λ (x : GroupState). c.args.m < length x.members) (sym c.self.view_is) c.requires.there in
    let old = c.index_mut-member.result.now in
    let n_is = c.draw-draw.ensures ∙ ap (g.D.Draws.draw c.args.draws.now c.args.m) c.next_draw.ensures in
    let is = c.in-Ok.ensures.published in
    let sent =
    sent_is s c.self.invariant.consistent c.args.m there old c.index_mut-member.ensures.value c.withdraw.new.self
    (g.D.Draws.draw c.args.draws.now) c.draw-draw.result n_is (Withdraws c.args.s) is.new
    c.add_reserved-sync.new.self.packets c.reserve.new.self.packets c.in_ok-vector.vector.items c.in-Ok.published.seq
    c.in-Ok.published.sync.items (ap (λ x. x.packets) c.in_ok-reserve.ensures.ok)
    (c.in_ok-vector.ensures ∙ c.vector.ensures.known)
    is.seq is.sync c.add_reserved-sync.ensures.sent in
    record {
      consistent =
          state_sent s c.self.invariant.consistent c.args.m there old c.index_mut-member.ensures.value
          c.withdraw.new.self
          (g.D.Draws.draw c.args.draws.now) c.draw-draw.result n_is (Withdraws c.args.s) is.new few is.post is.room
          c.add_reserved-sync.new.self.packets sent;
      nobody_lacks =
          published_lacks s c.args.m there c.self.inside.unsettled c.self.invariant.nobody_lacks
          (set s.members c.args.m c.withdraw.new.self) c.note.new.self c.in-Ok.published.seq c.note.ensures
          (drawing (g.D.Draws.draw c.args.draws.now)) (Withdraws c.args.s)
          (seq_is s c.self.invariant.consistent c.args.m there old c.index_mut-member.ensures.value
          c.in-Ok.published.seq is.seq)
          (ap (λ (w : World). w.members)
          (world_sent s c.self.invariant.consistent c.args.m there old c.index_mut-member.ensures.value
          c.withdraw.new.self
          (g.D.Draws.draw c.args.draws.now) c.draw-draw.result n_is (Withdraws c.args.s) is.new
          c.add_reserved-sync.new.self.packets sent));
    }

pub returns : goal.returns
returns g c =
    let s = world_state c.self.inside in
    let there = subst (λ (x : GroupState). c.args.m < length x.members) (sym c.self.view_is) c.requires.there in
    let old = c.index_mut-member.result.now in
    let event = Event.Withdraw c.args.m c.args.s in
    let n_is = c.draw-draw.ensures ∙ ap (g.D.Draws.draw c.args.draws.now c.args.m) c.next_draw.ensures in
    let is = c.in-Ok.ensures.published in
    let sent =
    sent_is s c.self.invariant.consistent c.args.m there old c.index_mut-member.ensures.value c.withdraw.new.self
    (g.D.Draws.draw c.args.draws.now) c.draw-draw.result n_is (Withdraws c.args.s) is.new
    c.add_reserved-sync.new.self.packets c.reserve.new.self.packets c.in_ok-vector.vector.items c.in-Ok.published.seq
    c.in-Ok.published.sync.items (ap (λ x. x.packets) c.in_ok-reserve.ensures.ok)
    (c.in_ok-vector.ensures ∙ c.vector.ensures.known)
    is.seq is.sync c.add_reserved-sync.ensures.sent in
    let seq : c.from.result ≡ next_seq_at (world_of c.args.self.now) c.args.m =
    c.from.ensures
    ∙ seq_is s c.self.invariant.consistent c.args.m there old c.index_mut-member.ensures.value c.in-Ok.published.seq
    is.seq
    ∙ ap (λ (x : GroupState). next_seq_at (world_of x) c.args.m) c.self.view_is in
    let many = length-map s.sent sync_in in
    let sync : c.from-3.result ≡ next_sync (world_of c.args.self.now) =
    c.from-3.ensures ∙ c.add_reserved-sync.ensures.number ∙ ap (λ x. length x.packets + 1) c.in_ok-reserve.ensures.ok
    ∙ ap (λ (n : _). n + 1) (sym many)
    ∙ ap (λ (x : GroupState). next_sync (world_of x)) c.self.view_is in
    record {
      taken =
          subst (λ (x : GroupState). refusal (drawing (g.D.Draws.draw c.args.draws.now)) (world_of x) event ≡ None)
          c.self.view_is
          (withdraw_taken s c.self.invariant.consistent c.args.m there old c.index_mut-member.ensures.value c.args.s
          (g.D.Draws.draw c.args.draws.now) c.in-Ok.ensures.object is.room);
      world =
          world_sent s c.self.invariant.consistent c.args.m there old c.index_mut-member.ensures.value
          c.withdraw.new.self
          (g.D.Draws.draw c.args.draws.now) c.draw-draw.result n_is (Withdraws c.args.s) is.new
          c.add_reserved-sync.new.self.packets sent
          ∙ ap (λ (x : GroupState). after_event (drawing (g.D.Draws.draw c.args.draws.now)) (world_of x) event)
          c.self.view_is;
      report = λ i. ReportValue.Withdraw c.args.m (seq i) (c.from-2.ensures i) (sync i);
      joined = tt;
      steps = ap (λ (x : GroupState). x.steps + 1) c.self.view_is;
      keys = ap (λ (x : GroupState). x.keys) c.self.view_is;
      mirrors = ap (λ (x : GroupState). x.mirrors) c.self.view_is;
      refused = tt;
      err = tt;
    }

pub invariant_of-self-in-Err : goal.invariant_of-self-in-Err
invariant_of-self-in-Err g c =
    let s = world_state c.self.inside in
    let there = subst (λ (x : GroupState). c.args.m < length x.members) (sym c.self.view_is) c.requires.there in
    let back =
    all_unchanged s.members c.args.m there c.index_mut-member.result.now c.index_mut-member.ensures.value
    c.withdraw.new.self c.in-Err.ensures.err in
    record {
      consistent =
          subst (λ (ms : List MemberState).
          IsConsistentState (record s { members = ms; sent = c.reserve.new.self.packets }))
          (sym back)
          (subst (λ (ps : List SentPacket). IsConsistentState (record s { sent = ps }))
          (sym (ap (λ x. x.packets) c.in_ok-reserve.ensures.ok)) c.self.invariant.consistent);
      nobody_lacks =
          subst (λ (ms : List MemberState). NobodyLacks c.self.inside.unsettled (in_groups ms) s.mirrors) (sym back)
          c.self.invariant.nobody_lacks;
    }
