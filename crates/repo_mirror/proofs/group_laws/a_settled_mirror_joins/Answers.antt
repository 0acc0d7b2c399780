use Rattle.repo_mirror.proofs.Joins.{joins}
use Rattle.repo_mirror.proofs.group_laws.a_settled_mirror_joins.Goals as goal

pub returns : goal.returns
returns c = joins
