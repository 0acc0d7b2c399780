use Rattle.group_model.proofs.Catalogues.{join_lists_those, join_lists_in_order}
use Rattle.group_model.proofs.laws.joins_list_what_is_not_withdrawn.Goals as goal

pub returns-clause-those : goal.returns-clause-those
returns-clause-those c = join_lists_those

pub returns-clause-in_order : goal.returns-clause-in_order
returns-clause-in_order c = join_lists_in_order
