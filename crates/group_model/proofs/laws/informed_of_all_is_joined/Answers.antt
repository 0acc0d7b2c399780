use Rattle.group_model.specs.Laws.{JoinsWhereAllAreInformed}
use Rattle.group_model.proofs.Runs.{informed_of_all, when_reached}
use Rattle.group_model.proofs.laws.informed_of_all_is_joined.Goals as goal

pub returns-clause-any : goal.returns-clause-any
returns-clause-any c = informed_of_all

pub returns-clause-reached : goal.returns-clause-reached
returns-clause-reached c = when_reached JoinsWhereAllAreInformed informed_of_all
