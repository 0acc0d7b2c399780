use Rattle.std.proofs.Common.{refl}
use Rattle.svs_vector.specs.Vectors.{join, join_all, covers}
use Rattle.group_model.proofs.examples.groups_obey_so.Goals as goal

pub returns-clause-restart_keeps_numbers : goal.returns-clause-restart_keeps_numbers
unfolding join join_all covers
returns-clause-restart_keeps_numbers c = (refl, refl)

pub returns-clause-insertion : goal.returns-clause-insertion
unfolding join join_all covers
returns-clause-insertion c = (refl, refl)

pub returns-clause-blocks : goal.returns-clause-blocks
unfolding join join_all covers
returns-clause-blocks c = (refl, refl)

pub returns-clause-deleted_before : goal.returns-clause-deleted_before
unfolding join join_all covers
returns-clause-deleted_before c = (refl, refl)
