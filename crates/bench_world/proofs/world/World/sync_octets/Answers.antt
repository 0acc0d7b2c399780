use Rattle.std.proofs.Common.{ap, ◌∙◌}
use Rattle.bench_world.specs.Kept.{world_state}
use Rattle.bench_world.specs.Showing.{sync_octets_at}
use Rattle.bench_world.specs.Worlds.{GroupState, world_of}
use Rattle.bench_world.proofs.SentOctets.{octets_as_shown}
use Rattle.bench_world.proofs.world.World.sync_octets.Goals as goal

pub returns : goal.returns
returns c =
    c.octets.ensures ∙ octets_as_shown (world_state c.self.inside) c.self.invariant.consistent c.args.k
    ∙ ap (λ (x : GroupState). sync_octets_at x.keys (world_of x) c.args.k) c.self.view_is
