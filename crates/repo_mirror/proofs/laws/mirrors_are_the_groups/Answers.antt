use Rattle.repo_mirror.proofs.GroupLemmas.{mirrors_plan_alike, mirrors_want_alike, mirrors_list_alike}
use Rattle.repo_mirror.proofs.laws.mirrors_are_the_groups.Goals as goal

pub returns-clause-plans : goal.returns-clause-plans
returns-clause-plans c = mirrors_plan_alike

pub returns-clause-wants : goal.returns-clause-wants
returns-clause-wants c = mirrors_want_alike

pub returns-clause-lists : goal.returns-clause-lists
returns-clause-lists c = mirrors_list_alike
