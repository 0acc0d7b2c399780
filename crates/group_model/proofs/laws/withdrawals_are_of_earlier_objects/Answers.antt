use Rattle.group_model.proofs.Withdrawals.{begins_rightly, stays_rightly, reached_rightly}
use Rattle.group_model.proofs.laws.withdrawals_are_of_earlier_objects.Goals as goal

pub returns-clause-begins : goal.returns-clause-begins
returns-clause-begins c = begins_rightly

pub returns-clause-stays : goal.returns-clause-stays
returns-clause-stays c = stays_rightly

pub returns-clause-reached : goal.returns-clause-reached
returns-clause-reached c = reached_rightly
