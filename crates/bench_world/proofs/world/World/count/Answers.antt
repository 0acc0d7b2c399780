use Rattle.std.proofs.Common.{◌<◌, sym, ap, subst}
use Rattle.bench_world.specs.Worlds.{GroupState, world_of}
use Rattle.bench_world.specs.Kept.{world_state}
use Rattle.bench_world.proofs.Readers.{counted_state}
use Rattle.bench_world.proofs.world.World.count.Goals as goal

pub invariant_of-self : goal.invariant_of-self
invariant_of-self c =
    record {
      consistent =
          counted_state (world_state c.self.inside) c.self.invariant.consistent
          (subst (λ (x : GroupState). x.steps < 100000) (sym c.self.view_is) c.requires);
      nobody_lacks =
          c.self.invariant.nobody_lacks;
    }

pub returns-clause-world : goal.returns-clause-world
returns-clause-world c = ap world_of c.self.view_is
