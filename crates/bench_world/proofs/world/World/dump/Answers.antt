use Rattle.std.proofs.Common.{refl, ◌<◌, length, None, sym, ap, ◌∙◌, subst}
use Rattle.std.specs.Prelude.{if◌then◌else◌}
use Rattle.group_model.specs.Member.{member_holds}
use Rattle.group_model.specs.World.{member, logs}
use Rattle.repo_member.specs.InGroup.{published_packet}
use Rattle.bench_world.specs.EventValues.{part_at, dump_report}
use Rattle.bench_world.specs.Worlds.{GroupState, world_of}
use Rattle.bench_world.specs.Kept.{world_state}
use Rattle.bench_world.proofs.Readers.{packet_of_held}
use Rattle.bench_world.proofs.world.World.dump.Goals as goal

pub returns : goal.returns
returns c =
    let s = world_state c.self.inside in
    let there = subst (λ (x : GroupState). c.args.m < length x.members) (sym c.self.view_is) c.requires.there in
    record {
      taken = refl;
      world = c.count.ensures.world;
      report =
          c.in_ok-happened.ensures
          ∙ ap (dump_report c.args.m)
          (packet_of_held s c.self.invariant.consistent c.args.m there c.index.result.now c.index.ensures
          (part_at c.args.p c.args.s c.args.x))
          ∙ ap (λ (w : GroupState). dump_report c.args.m
          (if member_holds (member (world_of w) c.args.m) (part_at c.args.p c.args.s c.args.x)
          then published_packet w.keys (logs (world_of w)) (part_at c.args.p c.args.s c.args.x) else None))
          c.self.view_is;
      joined = tt;
      steps = c.count.ensures.steps;
      keys = c.count.ensures.keys;
      mirrors = c.count.ensures.mirrors;
      refused = tt;
      err = tt;
    }
