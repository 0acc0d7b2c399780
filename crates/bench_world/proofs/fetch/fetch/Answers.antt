use Rattle.std.proofs.Common.{◌≡◌, None, List, length, sym, ap, ◌∙◌, arith}
use Rattle.std.specs.Prelude.{sum}
use Rattle.repo_holdings.specs.Taking.{Fetched}
use Rattle.bench_world.proofs.NextParts.{next_asked}
use Rattle.bench_world.proofs.Phases.{few_jobs, count_jobs, can_be_tried, fetch_comes}
use Rattle.bench_world.proofs.Bounded.{condition_of_holder}
use Rattle.bench_world.proofs.fetch.fetch.Goals as goal

pub phase-requires-clause-few : goal.phase-requires-clause-few
phase-requires-clause-few g c κs within =
    let can = condition_of_holder c.requires in
    let held = g.H.Holder.words.holdings c.args.holder.now in
    let consistent = g.met.H.Holder.are_holders.holder c.args.g.now g.logs c.args.holder.now can.consistent in
    let asks = next_asked held None in
    few_jobs (g.N.Net.passes c.args.link.now.net.now) c.args.g.now g.logs held c.args.link.now.others.now
    c.args.link.now.asker c.args.link.now.loss can.logs.are consistent can.others
    can.tried _ asks c.deref.result.now (c.deref.ensures.value ∙ c.in_ok-jobs.ensures)
    c.members.result.now c.members.ensures.ring

pub phase-requires-clause-jobs : goal.phase-requires-clause-jobs
phase-requires-clause-jobs g c κs within =
    let can = condition_of_holder c.requires in
    let held = g.H.Holder.words.holdings c.args.holder.now in
    let consistent = g.met.H.Holder.are_holders.holder c.args.g.now g.logs c.args.holder.now can.consistent in
    let asks = next_asked held None in
    can_be_tried (g.N.Net.passes c.args.link.now.net.now) c.args.g.now g.logs held
    c.args.link.now.others.now c.args.link.now.asker c.args.link.now.loss can.logs.are consistent can.others
    can.tried _ asks c.deref.result.now (c.deref.ensures.value ∙ c.in_ok-jobs.ensures)
    c.members.result.now c.members.ensures.ring c.args.tries can.tries.1

pub take-requires-clause-few : goal.take-requires-clause-few
take-requires-clause-few g c =
    let can = condition_of_holder c.requires in
    let held = g.H.Holder.words.holdings c.args.holder.now in
    let consistent = g.met.H.Holder.are_holders.holder c.args.g.now g.logs c.args.holder.now can.consistent in
    let asks = next_asked held None in
    few_jobs (g.N.Net.passes c.args.link.now.net.now) c.args.g.now g.logs held c.args.link.now.others.now
    c.args.link.now.asker c.args.link.now.loss can.logs.are consistent can.others
    can.tried _ asks c.deref-2.result.now (c.deref-2.ensures.value ∙ c.in_ok-jobs.ensures)
    c.members.result.now c.members.ensures.ring

pub take-requires-clause-outcome : goal.take-requires-clause-outcome
take-requires-clause-outcome g c =
    let can = condition_of_holder c.requires in
    let held = g.H.Holder.words.holdings c.args.holder.now in
    let consistent = g.met.H.Holder.are_holders.holder c.args.g.now g.logs c.args.holder.now can.consistent in
    let asks = next_asked held None in
    let came =
    fetch_comes (g.N.Net.passes c.args.link.now.net.now) c.args.g.now g.logs held c.args.link.now.others.now
    c.args.link.now.asker c.args.link.now.loss can.logs.are consistent can.others can.tried _ asks c.deref-2.result.now
    (c.deref-2.ensures.value ∙ c.in_ok-jobs.ensures) c.members.result.now c.members.ensures.ring c.args.tries
    can.tries.1 c.deref.result.now (c.deref.ensures.value ∙ c.in_ok-jobs.ensures)
    c.in_ok-outcome.outcome.parts.items c.deref-3.result.now c.deref-3.ensures.value
    c.in_ok-outcome.outcome.attempts.items c.deref-4.result.now c.deref-4.ensures.value c.in_ok-outcome.ensures.first in
    came.outcome

pub total-requires : goal.total-requires
total-requires g c =
    let can = condition_of_holder c.requires in
    let held = g.H.Holder.words.holdings c.args.holder.now in
    let consistent = g.met.H.Holder.are_holders.holder c.args.g.now g.logs c.args.holder.now can.consistent in
    let asks = next_asked held None in
    let few =
    few_jobs (g.N.Net.passes c.args.link.now.net.now) c.args.g.now g.logs held c.args.link.now.others.now
    c.args.link.now.asker c.args.link.now.loss can.logs.are consistent can.others
    can.tried _ asks c.deref-2.result.now (c.deref-2.ensures.value ∙ c.in_ok-jobs.ensures)
    c.members.result.now c.members.ensures.ring in
    let came =
    fetch_comes (g.N.Net.passes c.args.link.now.net.now) c.args.g.now g.logs held c.args.link.now.others.now
    c.args.link.now.asker c.args.link.now.loss can.logs.are consistent can.others can.tried _ asks c.deref-2.result.now
    (c.deref-2.ensures.value ∙ c.in_ok-jobs.ensures) c.members.result.now c.members.ensures.ring c.args.tries
    can.tries.1 c.deref.result.now (c.deref.ensures.value ∙ c.in_ok-jobs.ensures)
    c.in_ok-outcome.outcome.parts.items c.deref-3.result.now c.deref-3.ensures.value
    c.in_ok-outcome.outcome.attempts.items c.deref-4.result.now c.deref-4.ensures.value c.in_ok-outcome.ensures.first in
    let many = came.many in
    let same : length c.deref-5.result.now ≡ length c.deref-4.result.now =
    ap length (c.deref-5.ensures.value ∙ sym c.deref-4.ensures.value) in
    omega (arith, few, many, same)

pub returns : goal.returns
returns g c =
    let can = condition_of_holder c.requires in
    let held = g.H.Holder.words.holdings c.args.holder.now in
    let consistent = g.met.H.Holder.are_holders.holder c.args.g.now g.logs c.args.holder.now can.consistent in
    let asks = next_asked held None in
    let came =
    fetch_comes (g.N.Net.passes c.args.link.now.net.now) c.args.g.now g.logs held c.args.link.now.others.now
    c.args.link.now.asker c.args.link.now.loss can.logs.are consistent can.others can.tried _ asks c.deref-2.result.now
    (c.deref-2.ensures.value ∙ c.in_ok-jobs.ensures) c.members.result.now c.members.ensures.ring c.args.tries
    can.tries.1 c.deref.result.now (c.deref.ensures.value ∙ c.in_ok-jobs.ensures)
    c.in_ok-outcome.outcome.parts.items c.deref-3.result.now c.deref-3.ensures.value
    c.in_ok-outcome.outcome.attempts.items c.deref-4.result.now c.deref-4.ensures.value c.in_ok-outcome.ensures.first in
    let count =
    count_jobs (g.N.Net.passes c.args.link.now.net.now) c.args.g.now g.logs held
    c.args.link.now.others.now c.args.link.now.asker c.args.link.now.loss can.logs.are consistent can.others
    can.tried _ asks c.deref-2.result.now (c.deref-2.ensures.value ∙ c.in_ok-jobs.ensures)
    c.members.result.now c.members.ensures.ring in
    let same : length c.deref-2.result.now ≡ length c.in_ok-jobs.jobs.items = ap length c.deref-2.ensures.value in
    record {
      new =
          c.in_ok-kept.ensures.ok
          ∙ ap (λ (xs : List Fetched). g.H.Holder.words.takes xs c.args.holder.now) came.is;
      planned = omega (arith, count, same, c.in_ok-jobs.jobs.ok);
      parts = c.in_ok-kept.ensures.counts.parts ∙ came.parts;
      octets = c.in_ok-kept.ensures.counts.octets ∙ came.octets;
      attempts =
          c.total.ensures
          ∙ ap sum (c.deref-5.ensures.value ∙ sym c.deref-4.ensures.value ∙ came.attempts);
      err = tt;
    }
