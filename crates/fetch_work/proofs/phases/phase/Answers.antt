use Rattle.fetch_work.proofs.Each.{each_first}
use Rattle.fetch_work.proofs.phases.phase.Goals as goal

pub returns : goal.returns
returns g c =
    let outcome = c.in_ok-outcome.outcome in
    let made = c.in_ok-outcome.ensures in
    record {
      first = each_first
          (g.L.Link.answer c.args.link.now) c.args.ring.now c.args.tries c.args.jobs.now outcome.values.items
          outcome.attempts.items made.count made.counts made.first;
    }
