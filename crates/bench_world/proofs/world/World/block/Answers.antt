use Rattle.std.proofs.Common.{rules, arith, ◌≡◌, ◌<◌, ◌+◌, Option, None, Result, Ok, Err, length, refl, sym, ap, ◌∙◌}
use Rattle.std.proofs.Common.{set, subst}
use Rattle.std.proofs.lemmas.Grind.{common_steps}
use Rattle.group_model.specs.Events.{Event}
use Rattle.group_model.specs.Refusals.{Refusal, refusal}
use Rattle.group_model.specs.World.{World}
use Rattle.group_model.specs.Steps.{after_event, block_at, next_seq_at, next_sync}
use Rattle.repo_member.specs.declared.refusals.PublishRefusal.{PublishRefusal}
use Rattle.repo_member.specs.declared.refusals.PublishRefusal.TheVariants.{NumbersSpent}
use Rattle.repo_member.specs.declared.member.block.Blocked.{Blocked}
use Rattle.bench_world.specs.declared.event.EventError.TheVariants as fault
use Rattle.bench_world.specs.EventValues.{block_report}
use Rattle.bench_world.specs.Kept.{world_state}
use Rattle.bench_world.specs.Steps.{IsFaultOf}
use Rattle.bench_world.specs.Touching.{blocked_pair}
use Rattle.bench_world.specs.Worlds.{GroupState, world_of, drawing}
use Rattle.bench_world.proofs.BlockEvents.{block_refused, finds_number, block_taken, reported_so, after_so, noted_so}
use Rattle.bench_world.proofs.States.{early, few_draws}
use Rattle.bench_world.proofs.NobodyLacking.{blocked_lacks}
use Rattle.bench_world.proofs.world.World.block.Goals as goal

pub block-requires-clause-draws : goal.block-requires-clause-draws
block-requires-clause-draws g c =
    let s = world_state c.self.inside in
    let there = subst (λ (x : GroupState). c.args.m < length x.members) (sym c.self.view_is) c.requires.there in
    record {
      early = early s c.self.invariant.consistent;
      few =
          few_draws s c.self.invariant.consistent c.args.m there c.index_mut-member.result.now
          c.index_mut-member.ensures.value;
    }

pub returns-in-Err-NumbersSpent : goal.returns-in-Err-NumbersSpent
returns-in-Err-NumbersSpent g c =
    let s = world_state c.self.inside in
    let there = subst (λ (x : GroupState). c.args.m < length x.members) (sym c.self.view_is) c.requires.there in
    let event = Event.Block c.args.m c.args.process c.args.index c.args.content.now in
    let r : Result Blocked PublishRefusal = Err c.in-Err-NumbersSpent.field-0 in
    let is_err : r ≡ Err (NumbersSpent c.in-Err-NumbersSpent.field-0-0) = cc in
    let spent =
    block_refused s c.self.invariant.consistent c.args.m there c.index_mut-member.result.now
    c.index_mut-member.ensures.value
    c.args.process c.args.index c.args.content.now (g.D.Draws.draw c.args.draws.now) r c.in-Err-NumbersSpent.field-0-0
    is_err c.in-Err-NumbersSpent.ensures.spent in
    record {
      taken = tt;
      world = tt;
      report = tt;
      joined = tt;
      steps = tt;
      keys = search rules;
      mirrors = search rules;
      refused =
          subst (λ (x : GroupState).
          IsFaultOf (refusal (drawing (g.D.Draws.draw c.args.draws.now)) (world_of x) event) fault.NumbersSpent)
          c.self.view_is
          (subst (λ (o : Option Refusal). IsFaultOf o fault.NumbersSpent) (sym spent) refl);
      err = grind (arith, common_steps);
    }

pub invariant_of-self-2 : goal.invariant_of-self-2
invariant_of-self-2 g c =
    let s = world_state c.self.inside in
    let there = subst (λ (x : GroupState). c.args.m < length x.members) (sym c.self.view_is) c.requires.there in
    let old = c.index_mut-member.result.now in
    let r : Result Blocked PublishRefusal = Ok c.in-Ok.blocked in
    let room =
    finds_number s c.self.invariant.consistent c.args.m there old c.index_mut-member.ensures.value c.args.process
    c.args.index
    c.args.content.now r c.in-Ok.blocked refl c.in-Ok.ensures.spent in
    let few = subst (λ (x : GroupState). x.steps < 100000) (sym c.self.view_is) c.requires.few in
    let after =
    after_so s c.self.invariant.consistent c.args.m there old c.index_mut-member.ensures.value c.args.process
    c.args.index
    c.args.content.now room c.block.new.self (g.D.Draws.draw c.args.draws.now) c.draw-draw.result
    (c.draw-draw.ensures ∙ ap (g.D.Draws.draw c.args.draws.now c.args.m) c.next_draw.ensures) c.in-Ok.ensures.ok
    c.in-Ok.blocked c.in-Ok.ensures.answer few c.in-Ok.ensures.object
    c.send_blocked-happened.new.sent.packets c.reserve.new.self.packets c.in_ok-vector.vector.items
    (ap (λ x. x.packets) c.in_ok-reserve.ensures.ok) (c.in_ok-vector.ensures ∙ c.vector.ensures.known)
    c.send_blocked-happened.ensures.sent in
    record {
      consistent =
          after.state;
      nobody_lacks =
          blocked_lacks s c.args.m there c.self.inside.unsettled c.self.invariant.nobody_lacks
          (set s.members c.args.m c.block.new.self) c.note_blocked.new.self (blocked_pair c.args.m c.in-Ok.blocked)
          c.note_blocked.ensures (drawing (g.D.Draws.draw c.args.draws.now)) c.args.process
          (block_at (world_of s) c.args.m c.args.process c.args.index c.args.content.now)
          (noted_so s c.self.invariant.consistent c.args.m there old c.index_mut-member.ensures.value c.args.process
          c.args.index c.args.content.now room c.block.new.self (g.D.Draws.draw c.args.draws.now) c.draw-draw.result
          (c.draw-draw.ensures ∙ ap (g.D.Draws.draw c.args.draws.now c.args.m) c.next_draw.ensures)
          c.in-Ok.ensures.ok c.in-Ok.blocked c.in-Ok.ensures.answer)
          (ap (λ (w : World). w.members) after.world);
    }

pub returns : goal.returns
returns g c =
    let s = world_state c.self.inside in
    let there = subst (λ (x : GroupState). c.args.m < length x.members) (sym c.self.view_is) c.requires.there in
    let old = c.index_mut-member.result.now in
    let r : Result Blocked PublishRefusal = Ok c.in-Ok.blocked in
    let room =
    finds_number s c.self.invariant.consistent c.args.m there old c.index_mut-member.ensures.value c.args.process
    c.args.index
    c.args.content.now r c.in-Ok.blocked refl c.in-Ok.ensures.spent in
    let event = Event.Block c.args.m c.args.process c.args.index c.args.content.now in
    let few = subst (λ (x : GroupState). x.steps < 100000) (sym c.self.view_is) c.requires.few in
    let after =
    after_so s c.self.invariant.consistent c.args.m there old c.index_mut-member.ensures.value c.args.process
    c.args.index
    c.args.content.now room c.block.new.self (g.D.Draws.draw c.args.draws.now) c.draw-draw.result
    (c.draw-draw.ensures ∙ ap (g.D.Draws.draw c.args.draws.now c.args.m) c.next_draw.ensures) c.in-Ok.ensures.ok
    c.in-Ok.blocked c.in-Ok.ensures.answer few c.in-Ok.ensures.object
    c.send_blocked-happened.new.sent.packets c.reserve.new.self.packets c.in_ok-vector.vector.items
    (ap (λ x. x.packets) c.in_ok-reserve.ensures.ok) (c.in_ok-vector.ensures ∙ c.vector.ensures.known)
    c.send_blocked-happened.ensures.sent in
    record {
      taken =
          subst (λ (x : GroupState). refusal (drawing (g.D.Draws.draw c.args.draws.now)) (world_of x) event ≡ None)
          c.self.view_is
          (block_taken s c.self.invariant.consistent c.args.m there old c.index_mut-member.ensures.value c.args.process
          c.args.index
          c.args.content.now room (g.D.Draws.draw c.args.draws.now));
      world =
          after.world
          ∙ ap (λ (x : GroupState). after_event (drawing (g.D.Draws.draw c.args.draws.now)) (world_of x) event)
          c.self.view_is;
      report =
          reported_so s c.self.invariant.consistent c.args.m there old c.index_mut-member.ensures.value c.args.process
          c.args.index
          c.args.content.now room c.block.new.self (g.D.Draws.draw c.args.draws.now) c.draw-draw.result
          (c.draw-draw.ensures ∙ ap (g.D.Draws.draw c.args.draws.now c.args.m) c.next_draw.ensures) c.in-Ok.ensures.ok
          c.in-Ok.blocked c.in-Ok.ensures.answer _ (length c.reserve.new.self.packets + 1)
          c.send_blocked-happened.ensures.report
          (ap (λ x. length x.packets + 1) c.in_ok-reserve.ensures.ok)
          ∙ ap (λ (x : GroupState). block_report c.args.m (next_seq_at (world_of x) c.args.m) (next_sync (world_of x))
          (block_at (world_of x) c.args.m c.args.process c.args.index c.args.content.now)) c.self.view_is;
      joined = tt;
      steps = ap (λ (x : GroupState). x.steps + 1) c.self.view_is;
      keys = ap (λ (x : GroupState). x.keys) c.self.view_is;
      mirrors = ap (λ (x : GroupState). x.mirrors) c.self.view_is;
      refused = tt;
      err = tt;
    }
