use Rattle.lab_text.proofs.DifferenceLaws.{same_just_where_equal, same_just_where_none}
use Rattle.lab_text.proofs.laws.the_same_is_equal.Goals as goal

pub returns-clause-equal : goal.returns-clause-equal
returns-clause-equal c = same_just_where_equal

pub returns-clause-none : goal.returns-clause-none
returns-clause-none c = same_just_where_none
