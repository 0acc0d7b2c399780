use Rattle.std.proofs.Common.{arith}
use Rattle.repo_mirror.specs.MirrorState.{mirror_holdings}
use Rattle.repo_mirror.proofs.PublicLaws.{holder_outcomes_are_mirrors}
use Rattle.bench_world.proofs.MirrorFetches.{many_parts}
use Rattle.bench_world.proofs.holder.FilteringHolder.take.Goals as goal

pub take_outcome-requires : goal.take_outcome-requires
take_outcome-requires g c = record {
  outcome = holder_outcomes_are_mirrors c.args._g.now c.args.self.now.mirror c.args.jobs.now c.args.parts.now
      c.args.attempts.now c.requires.outcome;
}

pub fetched_octets-requires : goal.fetched_octets-requires
fetched_octets-requires g c =
    let many =
    many_parts c.args._g.now (mirror_holdings c.args.self.now.mirror) c.args.jobs.now c.args.parts.now
    c.args.attempts.now c.requires.outcome.each in
    let few = c.requires.few in omega (arith, many, few)
