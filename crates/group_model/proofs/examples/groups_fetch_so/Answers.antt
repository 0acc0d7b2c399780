use Rattle.std.proofs.Common.{refl}
use Rattle.svs_vector.specs.Vectors.{join, join_all, covers}
use Rattle.group_model.proofs.examples.groups_fetch_so.Goals as goal

pub returns-clause-fetches : goal.returns-clause-fetches
unfolding join join_all covers
returns-clause-fetches c = (refl, refl)

pub returns-clause-third_attempts : goal.returns-clause-third_attempts
unfolding join join_all covers
returns-clause-third_attempts c = (refl, refl)

pub returns-clause-from_outside : goal.returns-clause-from_outside
unfolding join join_all covers
returns-clause-from_outside c = (refl, refl)

pub returns-clause-parts_of_long_objects : goal.returns-clause-parts_of_long_objects
returns-clause-parts_of_long_objects c = (refl, refl, refl)

pub returns-clause-after_index_packets : goal.returns-clause-after_index_packets
unfolding join join_all covers
returns-clause-after_index_packets c = (refl, refl)

pub returns-clause-fetches_in_turn : goal.returns-clause-fetches_in_turn
unfolding join join_all covers
returns-clause-fetches_in_turn c = (refl, refl)
