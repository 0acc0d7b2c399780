use Rattle.std.proofs.Common.{refl, ◌<◌, length, sym, ap, ◌∙◌, subst}
use Rattle.repo_store.specs.Served.{served}
use Rattle.group_model.specs.World.{member, logs}
use Rattle.repo_member.specs.ConsistentMembers.{published_packets}
use Rattle.bench_world.specs.EventValues.{ask_report}
use Rattle.bench_world.specs.Worlds.{GroupState, world_of}
use Rattle.bench_world.specs.Kept.{world_state}
use Rattle.bench_world.proofs.Readers.{store_at}
use Rattle.bench_world.proofs.world.World.ask.Goals as goal

pub returns : goal.returns
returns c =
    let s = world_state c.self.inside in
    let there = subst (λ (x : GroupState). c.args.m < length x.members) (sym c.self.view_is) c.requires.there in
    record {
      taken = refl;
      world = c.count.ensures.world;
      report =
          c.in_ok-happened.ensures
          ∙ ap (λ es. ask_report c.args.m (served c.args.octets.now es))
          (store_at s c.self.invariant.consistent c.args.m there c.index.result.now c.index.ensures)
          ∙ ap (λ (w : GroupState). ask_report c.args.m
          (served c.args.octets.now (published_packets w.keys (logs (world_of w)) (member (world_of w) c.args.m).held)))
          c.self.view_is;
      joined = tt;
      steps = c.count.ensures.steps;
      keys = c.count.ensures.keys;
      mirrors = c.count.ensures.mirrors;
      refused = tt;
      err = tt;
    }
