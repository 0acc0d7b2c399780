use Rattle.std.proofs.Common.{refl}
use Rattle.svs_vector.specs.Vectors.{join, join_all, covers}
use Rattle.group_model.proofs.examples.groups_sync_so.Goals as goal

pub returns-clause-settles : goal.returns-clause-settles
unfolding join join_all covers
returns-clause-settles c = (refl, refl)

pub returns-clause-nothing : goal.returns-clause-nothing
unfolding join join_all covers
returns-clause-nothing c = (refl, refl)

pub returns-clause-delivers : goal.returns-clause-delivers
unfolding join join_all covers
returns-clause-delivers c = (refl, refl)

pub returns-clause-old_repeats : goal.returns-clause-old_repeats
unfolding join join_all covers
returns-clause-old_repeats c = (refl, refl)

pub returns-clause-settle_ends_claims : goal.returns-clause-settle_ends_claims
unfolding join join_all covers
returns-clause-settle_ends_claims c = (refl, refl)

pub returns-clause-timers : goal.returns-clause-timers
unfolding join join_all covers
returns-clause-timers c = (refl, refl)

pub returns-clause-informed_of_all : goal.returns-clause-informed_of_all
unfolding join join_all covers
returns-clause-informed_of_all c = (refl, refl)
