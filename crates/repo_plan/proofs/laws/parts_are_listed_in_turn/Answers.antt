use Rattle.repo_plan.proofs.Parents.{lists_in_turn}
use Rattle.repo_plan.proofs.laws.parts_are_listed_in_turn.Goals as goal

pub returns : goal.returns
returns c = lists_in_turn
