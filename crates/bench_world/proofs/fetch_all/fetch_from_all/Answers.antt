use Rattle.bench_world.proofs.fetch_all.fetch_from_all.Goals as goal

pub fetch_all-requires : goal.fetch_all-requires
fetch_all-requires g c κs within =
    (within.0, (within.1.0, (within.1.1, (c.type_bounds.sync-N, (c.type_bounds.sync-R, c.requires)))))
