use Rattle.group_model.specs.Settles.{ListsWhatIsHeld}
use Rattle.group_model.proofs.Runs.{when_reached}
use Rattle.group_model.proofs.SettledLists.{lists_what_is_held, lists_what_is_left, reached_lists_what_is_left}
use Rattle.group_model.proofs.laws.settles_list_what_is_held.Goals as goal

pub returns-clause-any : goal.returns-clause-any
returns-clause-any c = lists_what_is_held

pub returns-clause-reached : goal.returns-clause-reached
returns-clause-reached c = when_reached ListsWhatIsHeld lists_what_is_held

pub returns-clause-left : goal.returns-clause-left
returns-clause-left c = lists_what_is_left

pub returns-clause-reached_left : goal.returns-clause-reached_left
returns-clause-reached_left c = reached_lists_what_is_left
