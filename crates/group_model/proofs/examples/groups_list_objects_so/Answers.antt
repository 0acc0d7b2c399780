use Rattle.std.proofs.Common.{refl}
use Rattle.svs_vector.specs.Vectors.{join, join_all, covers}
use Rattle.group_model.proofs.examples.groups_list_objects_so.Goals as goal

pub returns-clause-part_by_part : goal.returns-clause-part_by_part
unfolding join join_all covers
returns-clause-part_by_part c = (refl, refl)

pub returns-clause-same_object_twice : goal.returns-clause-same_object_twice
unfolding join join_all covers
returns-clause-same_object_twice c = (refl, refl)

pub returns-clause-three_members : goal.returns-clause-three_members
unfolding join join_all covers
returns-clause-three_members c = (refl, refl)

pub returns-clause-segment_counts : goal.returns-clause-segment_counts
unfolding join join_all covers
returns-clause-segment_counts c = (refl, refl)

pub returns-clause-join_of_them : goal.returns-clause-join_of_them
unfolding join join_all covers
returns-clause-join_of_them c = refl
