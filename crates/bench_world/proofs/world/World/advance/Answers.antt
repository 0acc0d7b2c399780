use Rattle.std.proofs.Common.{◌<◌, sym, subst}
use Rattle.bench_world.specs.Worlds.{GroupState}
use Rattle.bench_world.specs.Kept.{world_state}
use Rattle.bench_world.proofs.Timers.{later_state}
use Rattle.bench_world.proofs.world.World.advance.Goals as goal

pub invariant_of-self : goal.invariant_of-self
invariant_of-self c =
    record {
      consistent =
          later_state (world_state c.self.inside) c.self.invariant.consistent
          (subst (λ (x : GroupState). x.steps < 100000) (sym c.self.view_is) c.requires.few) c.args.ms c.requires.short;
      nobody_lacks =
          c.self.invariant.nobody_lacks;
    }
