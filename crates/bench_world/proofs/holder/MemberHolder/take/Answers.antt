use Rattle.std.proofs.Common.{arith}
use Rattle.repo_member.specs.MemberState.{member_holdings}
use Rattle.bench_world.proofs.MirrorFetches.{many_parts}
use Rattle.bench_world.proofs.holder.MemberHolder.take.Goals as goal

pub fetched_octets-requires : goal.fetched_octets-requires
fetched_octets-requires g c =
    let many =
    many_parts c.args.g.now (member_holdings c.args.self.now) c.args.jobs.now c.args.parts.now c.args.attempts.now
    c.requires.outcome.each in
    let few = c.requires.few in omega (arith, many, few)
