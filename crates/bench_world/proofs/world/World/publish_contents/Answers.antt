use Rattle.std.proofs.Common.{List, ℕ, ◌≡◌, ◌⊎◌, ◌<◌, ◌+◌, Some, None, Err, map, length, set, refl, sym, ap, ◌∙◌, subst}
use Rattle.std.proofs.Common.{arith}
use Rattle.std.proofs.lemmas.Grind.{common_steps}
use Rattle.std.proofs.lemmas.Result.{err_from_is_err_and}
use Rattle.std.proofs.lemmas.List.{length-map}
use Rattle.repo_object.specs.Objects.{NamedContents}
use Rattle.repo_object.specs.Objects.Post.{Offers}
use Rattle.bench_net.specs.SentList.{SentPacket}
use Rattle.repo_member.specs.MemberState.{MemberState}
use Rattle.group_model.specs.Events.{Event}
use Rattle.group_model.specs.Refusals.{Refusal, refusal}
use Rattle.group_model.specs.World.{World}
use Rattle.group_model.specs.Steps.{after_publish, next_seq_at, next_sync}
use Rattle.bench_world.specs.Worlds.{GroupState, IsConsistentState, in_groups, sync_in, world_of, drawing}
use Rattle.bench_world.specs.Kept.{world_state}
use Rattle.bench_world.specs.Unsettled.{NobodyLacks}
use Rattle.bench_world.proofs.States.{early, few_draws}
use Rattle.bench_world.proofs.Objects.{refused_so, seq_is, sent_is, not_spent, world_sent, state_sent}
use Rattle.bench_world.proofs.NobodyLacking.{all_unchanged, published_lacks}
use Rattle.bench_world.proofs.world.World.publish_contents.Goals as goal

pub publish-requires-clause-draws : goal.publish-requires-clause-draws
publish-requires-clause-draws g c =
    let s = world_state c.self.inside in
    let there = subst (λ (x : GroupState). c.args.m < length x.members) (sym c.self.view_is) c.requires.there in
    record {
      early = early s c.self.invariant.consistent;
      few =
          few_draws s c.self.invariant.consistent c.args.m there c.index_mut-member.result.now
          c.index_mut-member.ensures.value;
    }

pub returns-in_err-published-clause-refused : goal.returns-in_err-published-clause-refused
returns-in_err-published-clause-refused g c =
    let s = world_state c.self.inside in
    let there = subst (λ (x : GroupState). c.args.m < length x.members) (sym c.self.view_is) c.requires.there in
    let object : NamedContents = record { name = c.args.name.now; contents = map (λ x. x.items) c.args.contents.now } in
    let p = err_from_is_err_and c.from_residual-in_err-published.result c.from_residual-in_err-published.ensures.1 in
    rw (p.1, p.2)
    (subst (λ (x : GroupState). (c.in_err-published.field-0.0 ≡ _)
    ⊎ (refusal (drawing (g.D.Draws.draw c.args.draws.now)) (world_of x) (Event.Publish c.args.m object)
    ≡ Some Refusal.NumbersSpent)) c.self.view_is
    (refused_so s c.self.invariant.consistent c.args.m there c.index_mut-member.result.now
    c.index_mut-member.ensures.value
    (g.D.Draws.draw c.args.draws.now) object (Err c.in_err-published.field-0.0) c.in_err-published.field-0.0 refl
    c.in_err-published.ensures.spent))

pub returns-in_err-published-clause-err : goal.returns-in_err-published-clause-err
returns-in_err-published-clause-err g c =
    let p = err_from_is_err_and c.from_residual-in_err-published.result c.from_residual-in_err-published.ensures.1 in
    rw p.1 (grind (arith, common_steps))

pub invariant_of-self-2 : goal.invariant_of-self-2
invariant_of-self-2 g c =
    let s = world_state c.self.inside in
    let few = subst (λ (x : GroupState). x.steps < 100000) (sym c.self.view_is) c.requires.few in
    let there = subst (λ (x : GroupState). c.args.m < length x.members) (sym c.self.view_is) c.requires.there in
    let old = c.index_mut-member.result.now in
    let object : NamedContents = record { name = c.args.name.now; contents = map (λ x. x.items) c.args.contents.now } in
    let n_is = c.draw-draw.ensures ∙ ap (g.D.Draws.draw c.args.draws.now c.args.m) c.next_draw.ensures in
    let is = c.in_ok-published.ensures.published in
    let sent =
    sent_is s c.self.invariant.consistent c.args.m there old c.index_mut-member.ensures.value c.publish.new.self
    (g.D.Draws.draw c.args.draws.now) c.draw-draw.result n_is (Offers object) is.new
    c.add_reserved-k.new.self.packets c.reserve.new.self.packets c.in_ok-vector.vector.items
    c.in_ok-published.published.seq
    c.in_ok-published.published.sync.items (ap (λ x. x.packets) c.in_ok-reserve.ensures.ok)
    (c.in_ok-vector.ensures ∙ c.vector.ensures.known)
    is.seq is.sync c.add_reserved-k.ensures.sent in
    record {
      consistent =
          state_sent s c.self.invariant.consistent c.args.m there old c.index_mut-member.ensures.value
          c.publish.new.self
          (g.D.Draws.draw c.args.draws.now) c.draw-draw.result n_is (Offers object) is.new few is.post is.room
          c.add_reserved-k.new.self.packets sent;
      nobody_lacks =
          published_lacks s c.args.m there c.self.inside.unsettled c.self.invariant.nobody_lacks
          (set s.members c.args.m c.publish.new.self) c.note.new.self c.in_ok-published.published.seq c.note.ensures
          (drawing (g.D.Draws.draw c.args.draws.now)) (Offers object)
          (seq_is s c.self.invariant.consistent c.args.m there old c.index_mut-member.ensures.value
          c.in_ok-published.published.seq is.seq)
          (ap (λ (w : World). w.members)
          (world_sent s c.self.invariant.consistent c.args.m there old c.index_mut-member.ensures.value
          c.publish.new.self
          (g.D.Draws.draw c.args.draws.now) c.draw-draw.result n_is (Offers object) is.new
          c.add_reserved-k.new.self.packets sent));
    }

pub returns-clause-published : goal.returns-clause-published
returns-clause-published g c =
    let s = world_state c.self.inside in
    let there = subst (λ (x : GroupState). c.args.m < length x.members) (sym c.self.view_is) c.requires.there in
    let old = c.index_mut-member.result.now in
    let object : NamedContents = record { name = c.args.name.now; contents = map (λ x. x.items) c.args.contents.now } in
    let n_is = c.draw-draw.ensures ∙ ap (g.D.Draws.draw c.args.draws.now c.args.m) c.next_draw.ensures in
    let is = c.in_ok-published.ensures.published in
    let sent =
    sent_is s c.self.invariant.consistent c.args.m there old c.index_mut-member.ensures.value c.publish.new.self
    (g.D.Draws.draw c.args.draws.now) c.draw-draw.result n_is (Offers object) is.new
    c.add_reserved-k.new.self.packets c.reserve.new.self.packets c.in_ok-vector.vector.items
    c.in_ok-published.published.seq
    c.in_ok-published.published.sync.items (ap (λ x. x.packets) c.in_ok-reserve.ensures.ok)
    (c.in_ok-vector.ensures ∙ c.vector.ensures.known)
    is.seq is.sync c.add_reserved-k.ensures.sent in
    record {
      taken =
          subst (λ (x : GroupState).
          refusal (drawing (g.D.Draws.draw c.args.draws.now)) (world_of x) (Event.Publish c.args.m object) ≡ None)
          c.self.view_is
          (not_spent s c.self.invariant.consistent c.args.m there old c.index_mut-member.ensures.value is.room);
      world =
          world_sent s c.self.invariant.consistent c.args.m there old c.index_mut-member.ensures.value
          c.publish.new.self
          (g.D.Draws.draw c.args.draws.now) c.draw-draw.result n_is (Offers object) is.new
          c.add_reserved-k.new.self.packets sent
          ∙ ap (λ (x : GroupState).
          after_publish (drawing (g.D.Draws.draw c.args.draws.now)) (world_of x) c.args.m (Offers object))
          c.self.view_is;
      seq =
          seq_is s c.self.invariant.consistent c.args.m there old c.index_mut-member.ensures.value
          c.in_ok-published.published.seq is.seq
          ∙ ap (λ (x : GroupState). next_seq_at (world_of x) c.args.m) c.self.view_is;
      sync =
          c.add_reserved-k.ensures.number
          ∙ ap (λ x. length x.packets + 1) c.in_ok-reserve.ensures.ok
          ∙ ap (λ (n : ℕ). n + 1) (sym (length-map s.sent sync_in))
          ∙ ap (λ (x : GroupState). next_sync (world_of x)) c.self.view_is;
      steps = ap (λ (x : GroupState). x.steps + 1) c.self.view_is;
      keys = ap (λ (x : GroupState). x.keys) c.self.view_is;
      mirrors = ap (λ (x : GroupState). x.mirrors) c.self.view_is;
    }

pub invariant_of-self-in_err-published : goal.invariant_of-self-in_err-published
invariant_of-self-in_err-published g c =
    let s = world_state c.self.inside in
    let there = subst (λ (x : GroupState). c.args.m < length x.members) (sym c.self.view_is) c.requires.there in
    let back =
    all_unchanged s.members c.args.m there c.index_mut-member.result.now c.index_mut-member.ensures.value
    c.publish.new.self c.in_err-published.ensures.err in
    record {
      consistent =
          subst (λ (ms : List MemberState).
          IsConsistentState (record s { members = ms; sent = c.reserve.new.self.packets }))
          (sym back)
          (subst (λ (ps : List SentPacket). IsConsistentState (record s { sent = ps }))
          (sym (ap (λ x. x.packets) c.in_ok-reserve.ensures.ok)) c.self.invariant.consistent);
      nobody_lacks =
          subst (λ (ms : List MemberState). NobodyLacks c.self.inside.unsettled (in_groups ms) s.mirrors) (sym back)
          c.self.invariant.nobody_lacks;
    }
