use Rattle.std.proofs.Common.{None, arith}
use Rattle.bench_world.proofs.NextParts.{few_next}
use Rattle.bench_world.proofs.fetch.fetch_of_all.Goals as goal

pub fetch-requires : goal.fetch-requires
fetch-requires g c κs within =
    (within.0, (within.1.0, (within.1.1, (c.type_bounds.sync-N, (c.type_bounds.sync-R, c.requires)))))

pub overflow_cast-result : goal.overflow_cast-result
overflow_cast-result g c =
    let few = few_next (g.H.Holder.words.holdings c.args.holder.now) None in
    let planned = c.in_ok-counts.ensures.planned in
    omega (arith, planned, few)
