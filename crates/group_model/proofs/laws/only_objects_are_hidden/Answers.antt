use Rattle.group_model.proofs.DeletedObjects.{begins_with_objects_deleted, stays_with_objects_deleted}
use Rattle.group_model.proofs.DeletedObjects.{reached_with_objects_deleted}
use Rattle.group_model.proofs.laws.only_objects_are_hidden.Goals as goal

pub returns-clause-begins : goal.returns-clause-begins
returns-clause-begins c = begins_with_objects_deleted

pub returns-clause-stays : goal.returns-clause-stays
returns-clause-stays c = stays_with_objects_deleted

pub returns-clause-reached : goal.returns-clause-reached
returns-clause-reached c = reached_with_objects_deleted
