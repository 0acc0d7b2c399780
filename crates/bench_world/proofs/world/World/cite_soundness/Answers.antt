use Rattle.std.proofs.Common.{◌≡◌, length, ◌∙◌, subst}
use Rattle.group_model.specs.Sound.{IsSoundGroup}
use Rattle.bench_world.specs.Worlds.{GroupState, world_of}
use Rattle.bench_world.specs.Kept.{world_state}
use Rattle.bench_world.proofs.States.{sound_state, many}
use Rattle.bench_world.proofs.world.World.cite_soundness.Goals as goal

pub returns-clause-sound : goal.returns-clause-sound
returns-clause-sound c =
    subst (λ (x : GroupState). IsSoundGroup (world_of x)) c.self.view_is
    (sound_state (world_state c.self.inside) c.self.invariant.consistent)

pub returns-clause-names : goal.returns-clause-names
returns-clause-names c =
    subst (λ (x : GroupState). length x.members ≡ length x.keys.members.names) c.self.view_is
    (many (world_state c.self.inside) c.self.invariant.consistent ∙ c.self.invariant.consistent.are.width)
