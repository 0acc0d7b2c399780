use Rattle.std.proofs.Common.{arith}
use Rattle.bench_world.specs.Sizes.{size_of}
use Rattle.bench_world.proofs.Rounds.{few_held, few_octets, went_on, went_left, went_smaller, went_gains, went_count}
use Rattle.bench_world.proofs.Rounds.{went_counts, counts_both, tried_still, lacks_still}
use Rattle.bench_world.proofs.Bounded.{condition_of_holder, holder_passed_on}
use Rattle.bench_world.proofs.fetch_all.fetch_round.Goals as goal

pub fetch_phase-requires : goal.fetch_phase-requires
fetch_phase-requires g c κs within =
    let can = condition_of_holder c.requires in
    let words = g.H.Holder.words in
    let holders = g.met.H.Holder.are_holders in
    holder_passed_on within c.requires
    (record {
      workers = can.workers;
      logs = can.logs;
      others = can.others;
      loss = can.loss;
      consistent = c.phases.invariant.so_far.gains.consistent;
      tried =
          tried_still words holders c.args.g.now g.logs c.args.link.now.others.now c.args.holder.now c.phases.holder
          c.phases.invariant.so_far.gains
          can.tried;
      lacks =
          lacks_still words holders c.args.touched.now c.args.g.now g.logs c.args.link.now.others.now c.args.holder.now
          c.phases.holder c.phases.invariant.so_far.gains can.lacks;
    })

pub overflow_add-kept : goal.overflow_add-kept
overflow_add-kept g c =
    let can = condition_of_holder c.requires in
    let words = g.H.Holder.words in
    let holders = g.met.H.Holder.are_holders in
    let gains =
    went_gains words holders c.args.g.now g.logs c.args.link.now.others.now can.logs.are can.others
    c.phases.after c.phases.kept.parts c.args.holder.now c.phases.holder c.phases.invariant.so_far
    c.fetch_phase.new.holder c.in_ok-place.came.parts c.in_ok-place.ensures.new c.in_ok-place.ensures.parts in
    let count =
    went_count words holders c.args.g.now g.logs c.args.link.now.others.now can.logs.are can.others
    c.phases.after c.phases.kept.parts c.args.holder.now c.phases.holder c.phases.invariant.so_far
    c.fetch_phase.new.holder c.in_ok-place.came.parts c.in_ok-place.ensures.new c.in_ok-place.ensures.parts in
    let most = few_held words holders c.args.g.now g.logs can.logs.are c.fetch_phase.new.holder gains.consistent in
    let few = can.logs.few in
    omega (arith, count, most, few)

pub overflow_add-kept-in-phases : goal.overflow_add-kept-in-phases
overflow_add-kept-in-phases g c =
    let can = condition_of_holder c.requires in
    let words = g.H.Holder.words in
    let holders = g.met.H.Holder.are_holders in
    let gains =
    went_gains words holders c.args.g.now g.logs c.args.link.now.others.now can.logs.are can.others
    c.phases.after c.phases.kept.parts c.args.holder.now c.phases.holder c.phases.invariant.so_far
    c.fetch_phase.new.holder c.in_ok-place.came.parts c.in_ok-place.ensures.new c.in_ok-place.ensures.parts in
    let count =
    went_counts words holders c.args.g.now g.logs c.args.link.now.others.now can.logs.are can.others
    c.phases.after c.phases.kept.parts c.args.holder.now c.phases.holder c.phases.invariant.so_far
    c.fetch_phase.new.holder c.in_ok-place.came.parts c.in_ok-place.ensures.new c.in_ok-place.ensures.parts
    (size_of c.args.g.now g.logs) c.in_ok-place.came.octets c.in_ok-place.ensures.octets in
    let most = few_octets words holders c.args.g.now g.logs can.logs.are c.fetch_phase.new.holder gains.consistent in
    let few = can.logs.few in
    let before = c.phases.invariant.octets in
    omega (arith, count, most, few, before)

pub returns-in_default-clause-left : goal.returns-in_default-clause-left
returns-in_default-clause-left g c =
    let can = condition_of_holder c.requires in
    let words = g.H.Holder.words in
    let holders = g.met.H.Holder.are_holders in
    went_left words holders c.args.g.now g.logs c.args.link.now.others.now can.logs.are can.others
    c.phases.after c.phases.kept.parts c.args.holder.now c.phases.holder c.phases.invariant.so_far
    c.fetch_phase.new.holder c.in_ok-place.came.parts c.in_ok-place.ensures.new c.in_ok-place.ensures.parts
    c.in_ok-place.place c.in_default.is c.in_ok-place.ensures.place

pub phases-smaller : goal.phases-smaller
phases-smaller g c =
    let can = condition_of_holder c.requires in
    let words = g.H.Holder.words in
    let holders = g.met.H.Holder.are_holders in
    went_smaller words holders c.args.g.now g.logs c.args.link.now.others.now can.logs.are can.others
    c.phases.after c.phases.kept.parts c.args.holder.now c.phases.holder c.phases.invariant.so_far
    c.fetch_phase.new.holder c.in_ok-place.came.parts c.in_ok-place.ensures.new c.in_ok-place.ensures.parts
    c.in-Some.last c.in_ok-place.place c.in-Some.is c.in_ok-place.ensures.place

pub phases-preserved : goal.phases-preserved
phases-preserved g c =
    let can = condition_of_holder c.requires in
    let words = g.H.Holder.words in
    let holders = g.met.H.Holder.are_holders in
    record {
      so_far = went_on words holders c.args.g.now g.logs c.args.link.now.others.now can.logs.are can.others
          c.phases.after c.phases.kept.parts c.args.holder.now c.phases.holder c.phases.invariant.so_far
          c.fetch_phase.new.holder c.in_ok-place.came.parts c.in_ok-place.ensures.new c.in_ok-place.ensures.parts
          c.in-Some.last c.in_ok-place.place c.in-Some.is c.in_ok-place.ensures.place;
      octets =
          counts_both words holders c.args.g.now g.logs c.args.link.now.others.now can.logs.are can.others
          (size_of c.args.g.now g.logs) c.phases.kept.octets c.in_ok-place.came.octets c.args.holder.now c.phases.holder
          c.fetch_phase.new.holder c.phases.invariant.octets
          (went_counts words holders c.args.g.now g.logs c.args.link.now.others.now can.logs.are can.others
          c.phases.after c.phases.kept.parts c.args.holder.now c.phases.holder c.phases.invariant.so_far
          c.fetch_phase.new.holder c.in_ok-place.came.parts c.in_ok-place.ensures.new c.in_ok-place.ensures.parts
          (size_of c.args.g.now g.logs) c.in_ok-place.came.octets c.in_ok-place.ensures.octets);
    }
