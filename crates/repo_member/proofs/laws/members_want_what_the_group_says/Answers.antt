use Rattle.repo_member.proofs.GroupPlans.{sound_stores_consistently, plans_alike, wants_alike}
use Rattle.repo_member.proofs.laws.members_want_what_the_group_says.Goals as goal

pub returns-clause-stores : goal.returns-clause-stores
returns-clause-stores c = sound_stores_consistently

pub returns-clause-plans : goal.returns-clause-plans
returns-clause-plans c = plans_alike

pub returns-clause-wants : goal.returns-clause-wants
returns-clause-wants c = wants_alike
