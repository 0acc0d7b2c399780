use Rattle.std.proofs.Common.{◌≡◌, ◌-◌, ℕ, List, length, replicate, sym, ap, ◌∙◌, arith}
use Rattle.sorted_lists.specs.SortedList.{contains}
use Rattle.repo_plan.specs.Parts.{part_cmp}
use Rattle.repo_holdings.specs.Taking.{Fetched}
use Rattle.bench_world.specs.Gathering.{next_lent}
use Rattle.bench_world.proofs.NextParts.{lent_asked, all_lent}
use Rattle.bench_world.proofs.Phases.{few_jobs, can_be_tried, planned_place, gather_comes}
use Rattle.bench_world.proofs.Bounded.{condition_of_holder}
use Rattle.bench_world.proofs.fetch_all.fetch_phase.Goals as goal

pub phase-requires-clause-few : goal.phase-requires-clause-few
phase-requires-clause-few g c κs within =
    let can = condition_of_holder c.requires in
    let held = g.H.Holder.words.holdings c.args.holder.now in
    let consistent = g.met.H.Holder.are_holders.holder c.args.g.now g.logs c.args.holder.now can.consistent in
    let asks = lent_asked held c.args.after c.args.link.now.others.now in
    few_jobs (g.N.Net.passes c.args.link.now.net.now) c.args.g.now g.logs held c.args.link.now.others.now
    c.args.link.now.asker c.args.link.now.loss can.logs.are consistent can.others
    can.tried _ asks c.deref-2.result.now (c.deref-2.ensures.value ∙ c.in_ok-jobs.ensures)
    c.members.result.now c.members.ensures.ring

pub phase-requires-clause-jobs : goal.phase-requires-clause-jobs
phase-requires-clause-jobs g c κs within =
    let can = condition_of_holder c.requires in
    let held = g.H.Holder.words.holdings c.args.holder.now in
    let consistent = g.met.H.Holder.are_holders.holder c.args.g.now g.logs c.args.holder.now can.consistent in
    let asks = lent_asked held c.args.after c.args.link.now.others.now in
    can_be_tried (g.N.Net.passes c.args.link.now.net.now) c.args.g.now g.logs held
    c.args.link.now.others.now c.args.link.now.asker c.args.link.now.loss can.logs.are consistent can.others
    can.tried _ asks c.deref-2.result.now (c.deref-2.ensures.value ∙ c.in_ok-jobs.ensures)
    c.members.result.now c.members.ensures.ring 1 (omega arith)

pub take-requires-clause-few : goal.take-requires-clause-few
take-requires-clause-few g c =
    let can = condition_of_holder c.requires in
    let held = g.H.Holder.words.holdings c.args.holder.now in
    let consistent = g.met.H.Holder.are_holders.holder c.args.g.now g.logs c.args.holder.now can.consistent in
    let asks = lent_asked held c.args.after c.args.link.now.others.now in
    few_jobs (g.N.Net.passes c.args.link.now.net.now) c.args.g.now g.logs held c.args.link.now.others.now
    c.args.link.now.asker c.args.link.now.loss can.logs.are consistent can.others
    can.tried _ asks c.deref-3.result.now (c.deref-3.ensures.value ∙ c.in_ok-jobs.ensures)
    c.members.result.now c.members.ensures.ring

pub take-requires-clause-outcome : goal.take-requires-clause-outcome
take-requires-clause-outcome g c =
    let can = condition_of_holder c.requires in
    let held = g.H.Holder.words.holdings c.args.holder.now in
    let consistent = g.met.H.Holder.are_holders.holder c.args.g.now g.logs c.args.holder.now can.consistent in
    let asks = lent_asked held c.args.after c.args.link.now.others.now in
    let long : length c.deref-3.result.now ≡ c.len.result = c.deref-3.ensures.len ∙ sym c.len.ensures in
    let came =
    gather_comes (g.N.Net.passes c.args.link.now.net.now) c.args.g.now g.logs held c.args.link.now.others.now
    c.args.link.now.asker c.args.link.now.loss can.logs.are consistent can.others can.tried _ asks
    c.deref-3.result.now (c.deref-3.ensures.value ∙ c.in_ok-jobs.ensures) c.members.result.now c.members.ensures.ring
    can.loss (all_lent held c.args.after c.args.link.now.others.now) c.deref-2.result.now
    (c.deref-2.ensures.value ∙ c.in_ok-jobs.ensures)
    c.in_ok-outcome.outcome.parts.items c.deref-4.result.now c.deref-4.ensures.value
    c.in_ok-outcome.outcome.attempts.items c.in_ok-outcome.ensures.first c.deref-5.result.now
    (c.deref-5.ensures.value ∙ c.in_ok-attempts.ensures.items_if_clones_equal (λ y e. e)
    ∙ sym (ap (λ (n : ℕ). replicate n 0) long)) in
    came.outcome

pub returns : goal.returns
returns g c =
    let can = condition_of_holder c.requires in
    let held = g.H.Holder.words.holdings c.args.holder.now in
    let consistent = g.met.H.Holder.are_holders.holder c.args.g.now g.logs c.args.holder.now can.consistent in
    let asks = lent_asked held c.args.after c.args.link.now.others.now in
    let long : length c.deref-3.result.now ≡ c.len.result = c.deref-3.ensures.len ∙ sym c.len.ensures in
    let came =
    gather_comes (g.N.Net.passes c.args.link.now.net.now) c.args.g.now g.logs held c.args.link.now.others.now
    c.args.link.now.asker c.args.link.now.loss can.logs.are consistent can.others can.tried _ asks
    c.deref-3.result.now (c.deref-3.ensures.value ∙ c.in_ok-jobs.ensures) c.members.result.now c.members.ensures.ring
    can.loss (all_lent held c.args.after c.args.link.now.others.now) c.deref-2.result.now
    (c.deref-2.ensures.value ∙ c.in_ok-jobs.ensures)
    c.in_ok-outcome.outcome.parts.items c.deref-4.result.now c.deref-4.ensures.value
    c.in_ok-outcome.outcome.attempts.items c.in_ok-outcome.ensures.first c.deref-5.result.now
    (c.deref-5.ensures.value ∙ c.in_ok-attempts.ensures.items_if_clones_equal (λ y e. e)
    ∙ sym (ap (λ (n : ℕ). replicate n 0) long)) in
    record {
      new =
          c.in_ok-kept.ensures.ok
          ∙ ap (λ (xs : List Fetched). g.H.Holder.words.takes xs c.args.holder.now) came.is;
      place =
          ap (contains part_cmp (next_lent c.args.link.now.others.now c.args.after held)) c.part-place.ensures
          ∙ planned_place (g.N.Net.passes c.args.link.now.net.now) c.args.g.now g.logs held
          c.args.link.now.others.now c.args.link.now.asker c.args.link.now.loss can.logs.are consistent can.others
          can.tried _ asks c.deref.result.now (c.deref.ensures.value ∙ c.in_ok-jobs.ensures)
          c.members.result.now c.members.ensures.ring
          c.in-Some.last.now (length c.deref.result.now - 1) (sym c.in-Some.ensures.value);
      parts = c.in_ok-kept.ensures.counts.parts ∙ came.parts;
      octets = c.in_ok-kept.ensures.counts.octets ∙ came.octets;
      err = tt;
    }
