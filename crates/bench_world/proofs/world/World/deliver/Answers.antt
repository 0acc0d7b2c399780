use Rattle.std.proofs.Common.{◌≡◌, ◌<◌, ℕ, length, List, None, sym, ap, ◌∙◌, subst, ◌+◌}
use Rattle.bench_net.specs.SentList.{SentPacket}
use Rattle.group_model.specs.Member.{Member}
use Rattle.group_model.specs.World.{World, sent_at, member}
use Rattle.group_model.specs.Refusals.{unless_sent}
use Rattle.group_model.specs.Steps.{after_deliver, mode_at}
use Rattle.svs_sync.specs.Suppression.{mode_of}
use Rattle.repo_member.specs.MemberState.{member_hears}
use Rattle.repo_member.specs.MemberState.{MemberState}
use Rattle.bench_world.specs.EventValues.{delivered_report}
use Rattle.bench_world.specs.Worlds.{GroupState, world_of, drawing}
use Rattle.bench_world.specs.Kept.{world_state}
use Rattle.bench_world.proofs.States.{few_draws, member_set}
use Rattle.bench_world.proofs.Deliveries.{there, not_refused, few_numbers, fits, no_more, heard_state}
use Rattle.bench_world.proofs.Deliveries.{heard_world}
use Rattle.bench_world.proofs.NobodyLacking.{same_lacks}
use Rattle.bench_world.proofs.world.World.deliver.Goals as goal

pub hear_vector-mode-requires-clause-few : goal.hear_vector-mode-requires-clause-few
hear_vector-mode-requires-clause-few g c =
    let s = world_state c.self.inside in
    let inside = subst (λ (x : GroupState). c.args.m < length x.members) (sym c.self.view_is) c.requires.there in
    few_draws s c.self.invariant.consistent c.args.m inside c.index_mut-member.result.now
    c.index_mut-member.ensures.value

pub invariant_of-self : goal.invariant_of-self
invariant_of-self g c =
    let s = world_state c.self.inside in
    let inside = subst (λ (x : GroupState). c.args.m < length x.members) (sym c.self.view_is) c.requires.there in
    let at = there (λ (p : SentPacket). p.vector) s.sent c.args.k c.in-Some.numbers.now c.in-Some.ensures in
    let old = c.index_mut-member.result.now in
    let e =
    c.hear_vector-mode.ensures.new
    ∙ ap (λ (v : List ℕ). member_hears v s.time c.draw-draw.result old) (c.in_ok-received.ensures ∙ at.same) in
    record {
      consistent =
          heard_state s c.self.invariant.consistent c.args.k at.first at.last c.args.m inside old
          c.hear_vector-mode.new.self
          c.index_mut-member.ensures.value (g.D.Draws.draw c.args.draws.now) c.draw-draw.result e
          (c.draw-draw.ensures ∙ ap (g.D.Draws.draw c.args.draws.now c.args.m) c.next_draw.ensures)
          (subst (λ (x : GroupState). x.steps < 100000) (sym c.self.view_is) c.requires.few);
      nobody_lacks =
          same_lacks c.self.inside.unsettled s.mirrors s.members c.args.m inside c.index_mut-member.result.now
          c.index_mut-member.ensures.value c.hear_vector-mode.new.self
          (ap (λ (a : MemberState). a.store) c.hear_vector-mode.ensures.new)
          (ap (λ (a : MemberState). a.hidden) c.hear_vector-mode.ensures.new) c.self.invariant.nobody_lacks;
    }

pub returns : goal.returns
returns g c =
    let s = world_state c.self.inside in
    let at = there (λ (p : SentPacket). p.vector) s.sent c.args.k c.in-Some.numbers.now c.in-Some.ensures in
    let inside = subst (λ (x : GroupState). c.args.m < length x.members) (sym c.self.view_is) c.requires.there in
    let old = c.index_mut-member.result.now in
    let e =
    c.hear_vector-mode.ensures.new
    ∙ ap (λ (v : List ℕ). member_hears v s.time c.draw-draw.result old) (c.in_ok-received.ensures ∙ at.same) in
    let after =
    heard_world s c.self.invariant.consistent c.args.k at.first at.last c.args.m inside old c.hear_vector-mode.new.self
    c.index_mut-member.ensures.value (g.D.Draws.draw c.args.draws.now) c.draw-draw.result e
    (c.draw-draw.ensures ∙ ap (g.D.Draws.draw c.args.draws.now c.args.m) c.next_draw.ensures) in
    record {
      taken =
          subst (λ (x : GroupState). unless_sent (world_of x) c.args.k ≡ None) c.self.view_is
          (not_refused s c.args.k at.first at.last);
      world =
          after ∙ ap (λ (x : GroupState). after_deliver (drawing (g.D.Draws.draw c.args.draws.now)) (world_of x)
          c.args.m
          (sent_at (world_of x) c.args.k).vector) c.self.view_is;
      report =
          c.delivered.ensures ∙ ap (λ n. delivered_report n c.args.m c.hear_vector-mode.result) c.from.ensures
          ∙ ap (delivered_report c.args.k c.args.m)
          (c.hear_vector-mode.ensures.mode
          ∙ ap (λ (x : Member). mode_of x.machine.heard)
          (sym (member_set s.members c.args.m c.hear_vector-mode.new.self inside))
          ∙ ap (λ (w : World). mode_of (member w c.args.m).machine.heard) after)
          ∙ ap (λ (x : GroupState). delivered_report c.args.k c.args.m
          (mode_at (after_deliver (drawing (g.D.Draws.draw c.args.draws.now)) (world_of x) c.args.m
          (sent_at (world_of x) c.args.k).vector) c.args.m)) c.self.view_is;
      joined = tt;
      steps = ap (λ (x : GroupState). x.steps + 1) c.self.view_is;
      keys = ap (λ (x : GroupState). x.keys) c.self.view_is;
      mirrors = ap (λ (x : GroupState). x.mirrors) c.self.view_is;
      refused = tt;
      err = tt;
    }

pub vector_of-requires : goal.vector_of-requires
vector_of-requires g c =
    let s = world_state c.self.inside in
    let at = there (λ (p : SentPacket). p.vector) s.sent c.args.k c.in-Some.numbers.now c.in-Some.ensures in
    few_numbers s c.self.invariant.consistent c.args.k at.first at.last c.in-Some.numbers.now at.same

pub hear_vector-mode-requires-clause-width : goal.hear_vector-mode-requires-clause-width
hear_vector-mode-requires-clause-width g c =
    let s = world_state c.self.inside in
    let inside = subst (λ (x : GroupState). c.args.m < length x.members) (sym c.self.view_is) c.requires.there in
    let at = there (λ (p : SentPacket). p.vector) s.sent c.args.k c.in-Some.numbers.now c.in-Some.ensures in
    let old = c.index_mut-member.result.now in
    ap length (c.in_ok-received.ensures ∙ at.same)
    ∙ fits s c.self.invariant.consistent c.args.k at.first at.last c.args.m inside old old
    c.index_mut-member.ensures.value

pub hear_vector-mode-requires-clause-members : goal.hear_vector-mode-requires-clause-members
hear_vector-mode-requires-clause-members g c =
    let s = world_state c.self.inside in
    let at = there (λ (p : SentPacket). p.vector) s.sent c.args.k c.in-Some.numbers.now c.in-Some.ensures in
    few_numbers s c.self.invariant.consistent c.args.k at.first at.last c.in_ok-received.received
    (c.in_ok-received.ensures ∙ at.same)

pub hear_vector-mode-requires-clause-own : goal.hear_vector-mode-requires-clause-own
hear_vector-mode-requires-clause-own g c =
    let s = world_state c.self.inside in
    let inside = subst (λ (x : GroupState). c.args.m < length x.members) (sym c.self.view_is) c.requires.there in
    let at = there (λ (p : SentPacket). p.vector) s.sent c.args.k c.in-Some.numbers.now c.in-Some.ensures in
    let old = c.index_mut-member.result.now in
    no_more s c.self.invariant.consistent c.args.k at.first at.last c.args.m inside old old
    c.index_mut-member.ensures.value
    c.in_ok-received.received (c.in_ok-received.ensures ∙ at.same)
