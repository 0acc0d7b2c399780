use Rattle.repo_mirror.proofs.Joins.{learn_all}
use Rattle.repo_mirror.proofs.group_laws.mirrors_learn_all.Goals as goal

pub returns : goal.returns
returns c = learn_all
