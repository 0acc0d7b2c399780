use Rattle.std.proofs.Common.{refl}
use Rattle.svs_vector.specs.Vectors.{join, join_all, covers}
use Rattle.group_model.proofs.examples.groups_withdraw_so.Goals as goal

pub returns-clause-withdrawn_before : goal.returns-clause-withdrawn_before
unfolding join join_all covers
returns-clause-withdrawn_before c = (refl, refl)

pub returns-clause-withdrawn_after : goal.returns-clause-withdrawn_after
unfolding join join_all covers
returns-clause-withdrawn_after c = (refl, refl)

pub returns-clause-deleted_and_withdrawn : goal.returns-clause-deleted_and_withdrawn
unfolding join join_all covers
returns-clause-deleted_and_withdrawn c = (refl, refl)

pub returns-clause-join_less_withdrawn : goal.returns-clause-join_less_withdrawn
returns-clause-join_less_withdrawn c = refl
