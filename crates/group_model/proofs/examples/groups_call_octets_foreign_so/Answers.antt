use Rattle.std.proofs.Common.{refl}
use Rattle.svs_vector.specs.Vectors.{join, join_all, covers}
use Rattle.group_model.proofs.examples.groups_call_octets_foreign_so.Goals as goal

pub returns-clause-hear : goal.returns-clause-hear
unfolding join join_all covers
returns-clause-hear c = ((refl, refl), refl)

pub returns-clause-feed : goal.returns-clause-feed
unfolding join join_all covers
returns-clause-feed c = ((refl, refl), refl)

pub returns-clause-answer : goal.returns-clause-answer
unfolding join join_all covers
returns-clause-answer c = ((refl, refl), refl)

pub returns-clause-order : goal.returns-clause-order
unfolding join join_all covers
returns-clause-order c = ((refl, refl), refl)
