-- That the want is that of the published part.
use Rattle.bench_world.proofs.ClaimedPackets.{want_claimed, want_consistent}
use Rattle.bench_world.proofs.answering.want_for.Goals as goal

pub returns-in-Ok-clause-claim : goal.returns-in-Ok-clause-claim
returns-in-Ok-clause-claim g c =
    want_claimed c.args.g.now c.args.member.now c.args.f c.in-Ok.want c.in-Ok.ensures.want

pub returns-in-Ok-clause-want : goal.returns-in-Ok-clause-want
returns-in-Ok-clause-want g c =
    want_consistent c.args.g.now g.logs c.args.member.now c.requires.logs c.requires.consistent c.args.f c.in-Ok.want
    c.in-Ok.ensures.want
