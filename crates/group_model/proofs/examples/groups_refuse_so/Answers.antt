use Rattle.std.proofs.Common.{refl}
use Rattle.svs_vector.specs.Vectors.{join, join_all, covers}
use Rattle.group_model.proofs.examples.groups_refuse_so.Goals as goal

pub returns-clause-unsent : goal.returns-clause-unsent
unfolding join join_all covers
returns-clause-unsent c = ((refl, refl), refl)

pub returns-clause-busy : goal.returns-clause-busy
unfolding join join_all covers
returns-clause-busy c = ((refl, refl), refl)

pub returns-clause-idle : goal.returns-clause-idle
unfolding join join_all covers
returns-clause-idle c = ((refl, refl), refl)

pub returns-clause-spent : goal.returns-clause-spent
returns-clause-spent c = (refl, refl)

pub returns-clause-withdrawn_once : goal.returns-clause-withdrawn_once
unfolding join join_all covers
returns-clause-withdrawn_once c = ((refl, refl), refl)

pub returns-clause-withdrawing_is_spent : goal.returns-clause-withdrawing_is_spent
returns-clause-withdrawing_is_spent c = (refl, refl, refl)
