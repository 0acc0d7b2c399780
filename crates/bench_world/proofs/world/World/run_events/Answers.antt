use Rattle.std.proofs.Common.{◌≡◌, ◌<◌, None, length, refl, sym, ap, ◌∙◌, subst, arith}
use Rattle.std.proofs.lemmas.List.{length-map}
use Rattle.group_model.specs.Steps.{after_event}
use Rattle.group_model.specs.Refusals.{refusal}
use Rattle.repo_member.specs.InGroup.{in_group}
use Rattle.bench_world.specs.Serving.{environment}
use Rattle.bench_world.specs.EventValues.{event_value, group_event}
use Rattle.bench_world.specs.Steps.{EventInRange, IsStepFaultOf}
use Rattle.bench_world.specs.Runs.{event_values, IsStopped}
use Rattle.bench_world.specs.Worlds.{world_of}
use Rattle.bench_world.proofs.EventRuns.{taken_more, world_more, many_more, stopped_here}
use Rattle.bench_world.proofs.EventRuns.{all_taken, all_world, all_joined}
use Rattle.bench_world.proofs.world.World.run_events.Goals as goal

pub loop-event-init : goal.loop-event-init
loop-event-init g c = record {
  made = refl;
  steps = omega arith;
  keys = refl;
  mirrors = refl;
  many = length-map c.args.self.now.members in_group ∙ c.cite_soundness.ensures.names;
  taken = tt;
  world = refl;
}

pub loop-event-preserved : goal.loop-event-preserved
loop-event-preserved g c =
    let env = environment c.args.self.now.keys (g.D.Draws.draw c.args.draws.now) (g.N.Net.passes c.args.net.now) in
    let inv = c.loop-event.invariant in
    let i = c.loop-event.event-index in
    let inside : c.loop-event.event-index < length c.args.events.now =
    omega (arith, c.loop-event-test.true, c.loop-event.auto.event-index-end) in
    let item = c.event-item.result in
    let ready : EventInRange (length c.args.self.now.keys.members.names) (event_value c.event-item.result) =
    subst (λ e. EventInRange (length c.args.self.now.keys.members.names) (event_value e)) (sym c.event-item.is)
    (c.requires.fits i c.event-item.result inside).ready in
    let not_refused : refusal
    (environment c.args.self.now.keys (g.D.Draws.draw c.args.draws.now) (g.N.Net.passes c.args.net.now))
    (world_of c.loop-event.self) (group_event c.args.self.now.keys (event_value c.event-item.result))
    ≡ None =
    subst (λ k. refusal (environment k (g.D.Draws.draw c.args.draws.now) (g.N.Net.passes c.args.net.now))
    (world_of c.loop-event.self) (group_event k (event_value c.event-item.result))
    ≡ None) inv.keys c.in-Ok.ensures.ok.taken in
    let stepped : world_of c.step.new.self
    ≡ after_event (environment c.args.self.now.keys (g.D.Draws.draw c.args.draws.now) (g.N.Net.passes c.args.net.now))
    (world_of c.loop-event.self) (group_event c.args.self.now.keys (event_value c.event-item.result)) =
    c.in-Ok.ensures.ok.world
    ∙ ap (λ k. after_event (environment k (g.D.Draws.draw c.args.draws.now) (g.N.Net.passes c.args.net.now))
    (world_of c.loop-event.self) (group_event k (event_value c.event-item.result))) inv.keys in
    record {
      made = omega (arith, inv.made);
      steps = omega (arith, inv.steps, c.in-Ok.ensures.ok.steps);
      keys = c.step.ensures.keeps.keys ∙ inv.keys;
      mirrors = c.step.ensures.keeps.mirrors ∙ inv.mirrors;
      many =
          many_more env c.args.self.now.keys (world_of c.args.self.now) c.args.events.now i inside item c.event-item.is
          (world_of c.loop-event.self) (world_of c.step.new.self) (length c.args.self.now.keys.members.names) inv.many
          ready inv.taken inv.world not_refused stepped c.cite_soundness.ensures.sound;
      taken =
          taken_more env c.args.self.now.keys (world_of c.args.self.now) c.args.events.now i inside item c.event-item.is
          (world_of c.loop-event.self) (world_of c.step.new.self) (length c.args.self.now.keys.members.names) inv.many
          ready inv.taken inv.world not_refused stepped;
      world =
          world_more env c.args.self.now.keys (world_of c.args.self.now) c.args.events.now i inside item c.event-item.is
          (world_of c.loop-event.self) (world_of c.step.new.self) (length c.args.self.now.keys.members.names) inv.many
          ready inv.taken inv.world not_refused stepped;
    }

pub returns-clause-ok : goal.returns-clause-ok
returns-clause-ok g c =
    let env = environment c.args.self.now.keys (g.D.Draws.draw c.args.draws.now) (g.N.Net.passes c.args.net.now) in
    let keys = c.args.self.now.keys in
    let begun = world_of c.args.self.now in
    let events = c.args.events.now in
    let sound = c.cite_soundness.ensures.sound in
    let inv = c.loop-event.invariant in
    let i = c.loop-event.event-index in
    let all : c.loop-event.event-index ≡ length c.args.events.now =
    omega (arith, c.loop-event-test.false, c.loop-event.auto.event-index-end) in
    let last = world_of c.loop-event.self in
    record {
      taken = all_taken env keys begun events sound i all last inv.taken inv.world;
      world = all_world env keys begun events sound i all last inv.taken inv.world;
      joined = all_joined env keys begun events sound i all last inv.taken inv.world;
      steps = omega (arith, inv.steps, all);
    }

pub returns-in-Err-clause-keeps : goal.returns-in-Err-clause-keeps
returns-in-Err-clause-keeps g c = record {
  keys = c.step.ensures.keeps.keys ∙ c.loop-event.invariant.keys;
  mirrors = c.step.ensures.keeps.mirrors ∙ c.loop-event.invariant.mirrors;
}

pub returns-in-Err-clause-stopped : goal.returns-in-Err-clause-stopped
returns-in-Err-clause-stopped g c =
    let env = environment c.args.self.now.keys (g.D.Draws.draw c.args.draws.now) (g.N.Net.passes c.args.net.now) in
    let inv = c.loop-event.invariant in
    let i = c.loop-event.event-index in
    let inside : c.loop-event.event-index < length c.args.events.now =
    omega (arith, c.loop-event-test.true, c.loop-event.auto.event-index-end) in
    let item = c.event-item.result in
    let ready : EventInRange (length c.args.self.now.keys.members.names) (event_value c.event-item.result) =
    subst (λ e. EventInRange (length c.args.self.now.keys.members.names) (event_value e)) (sym c.event-item.is)
    (c.requires.fits i c.event-item.result inside).ready in
    let because : IsStepFaultOf
    (refusal (environment c.args.self.now.keys (g.D.Draws.draw c.args.draws.now) (g.N.Net.passes c.args.net.now))
    (world_of c.loop-event.self) (group_event c.args.self.now.keys (event_value c.event-item.result))) c.in-Err.fault =
    subst (λ k. IsStepFaultOf
    (refusal (environment k (g.D.Draws.draw c.args.draws.now) (g.N.Net.passes c.args.net.now))
    (world_of c.loop-event.self)
    (group_event k (event_value c.event-item.result))) c.in-Err.fault) inv.keys c.in-Err.ensures.refused in
    subst
    (λ k. IsStopped (environment c.args.self.now.keys (g.D.Draws.draw c.args.draws.now) (g.N.Net.passes c.args.net.now))
    c.args.self.now (event_values c.args.events.now) k c.in-Err.fault c.step.new.self) (sym inv.made)
    (stopped_here env c.args.self.now.keys (world_of c.args.self.now) c.args.events.now i inside item c.event-item.is
    (world_of c.loop-event.self) (world_of c.step.new.self) (length c.args.self.now.keys.members.names) inv.many ready
    inv.taken inv.world
    env c.args.self.now c.loop-event.self c.step.new.self c.in-Err.fault refl refl refl refl inv.steps
    inv.keys because c.in-Err.ensures.err)
