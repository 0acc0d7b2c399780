use Rattle.std.proofs.Common.{arith}
use Rattle.bench_world.proofs.Rounds.{few_held, few_octets, tried_still, lacks_still}
use Rattle.bench_world.proofs.Bounded.{condition_of_holder, holder_passed_on}
use Rattle.bench_world.proofs.fetch_all.fetch_all.Goals as goal

pub fetch_round-requires : goal.fetch_round-requires
fetch_round-requires g c κs within =
    let can = condition_of_holder c.requires in
    let words = g.H.Holder.words in
    let holders = g.met.H.Holder.are_holders in
    holder_passed_on within c.requires
    (record {
      workers = can.workers;
      logs = can.logs;
      others = can.others;
      loss = can.loss;
      consistent = c.rounds.invariant.gains.consistent;
      tried =
          tried_still words holders c.args.g.now g.logs c.args.link.now.others.now c.args.holder.now c.rounds.holder
          c.rounds.invariant.gains
          can.tried;
      lacks =
          lacks_still words holders c.args.touched.now c.args.g.now g.logs c.args.link.now.others.now c.args.holder.now
          c.rounds.holder c.rounds.invariant.gains can.lacks;
    })

pub overflow_add-kept : goal.overflow_add-kept
overflow_add-kept g c =
    let can = condition_of_holder c.requires in
    let words = g.H.Holder.words in
    let holders = g.met.H.Holder.are_holders in
    let most =
    few_held words holders c.args.g.now g.logs can.logs.are c.fetch_round.new.holder
    c.fetch_round.ensures.gains.consistent in
    let few = can.logs.few in
    let one = c.in_ok-came.ensures.parts in
    let before = c.rounds.invariant.parts in
    omega (arith, most, few, one, before)

pub overflow_add-kept-in-rounds : goal.overflow_add-kept-in-rounds
overflow_add-kept-in-rounds g c =
    let can = condition_of_holder c.requires in
    let words = g.H.Holder.words in
    let holders = g.met.H.Holder.are_holders in
    let most =
    few_octets words holders c.args.g.now g.logs can.logs.are c.fetch_round.new.holder
    c.fetch_round.ensures.gains.consistent in
    let few = can.logs.few in
    let one = c.in_ok-came.ensures.octets in
    let before = c.rounds.invariant.octets in
    omega (arith, most, few, one, before)

pub rounds-smaller : goal.rounds-smaller
rounds-smaller g c =
    let can = condition_of_holder c.requires in
    let words = g.H.Holder.words in
    let holders = g.met.H.Holder.are_holders in
    let most =
    few_held words holders c.args.g.now g.logs can.logs.are c.fetch_round.new.holder
    c.fetch_round.ensures.gains.consistent in
    let one = c.in_ok-came.ensures.parts in
    omega (arith, most, one, c.if-came-eq0.false)
