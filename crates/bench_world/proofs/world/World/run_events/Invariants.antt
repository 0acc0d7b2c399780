use Rattle.std.proofs.Common.{◌≡◌, ◌+◌, length, take}
use Rattle.group_model.specs.Steps.{after_events}
use Rattle.group_model.specs.Refusals.{EventsAreTaken}
use Rattle.bench_world.specs.Serving.{environment}
use Rattle.bench_world.specs.Worlds.{world_of}
use Rattle.bench_world.specs.Runs.{event_values, group_events}
use Rattle.bench_world.proofs.world.World.run_events.Given as goal

abbrev pub invariant-loop-event : goal.invariant-loop-event
invariant-loop-event g l = record {
  made : l.made ≡ l.event-index;
  steps : l.self.steps ≡ l.fn.self.steps + l.event-index;
  keys : l.self.keys ≡ l.fn.self.keys;
  mirrors : l.self.mirrors ≡ l.fn.self.mirrors;
  many : length (world_of l.self).members ≡ length l.fn.self.keys.members.names;
  taken : EventsAreTaken (environment l.fn.self.keys (g.D.Draws.draw l.draws) (g.N.Net.passes l.net))
      (world_of l.fn.self)
      (group_events l.fn.self.keys (event_values (take l.event-index l.events)));
  world : world_of l.self
      ≡ after_events (environment l.fn.self.keys (g.D.Draws.draw l.draws) (g.N.Net.passes l.net)) (world_of l.fn.self)
      (group_events l.fn.self.keys (event_values (take l.event-index l.events)));
}
