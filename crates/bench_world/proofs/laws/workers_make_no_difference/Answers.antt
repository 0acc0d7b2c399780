use Rattle.std.proofs.Common.{refl}
use Rattle.bench_world.proofs.laws.workers_make_no_difference.Goals as goal

pub returns-clause-fetches : goal.returns-clause-fetches
returns-clause-fetches c g m tries loss few many =
    record { refused = λ env w. refl; world = λ env w. refl; report = λ env w. refl }

pub returns-clause-settles : goal.returns-clause-settles
returns-clause-settles c g few many =
    record { refused = λ env w. refl; world = λ env w. refl; report = λ env w. refl }
