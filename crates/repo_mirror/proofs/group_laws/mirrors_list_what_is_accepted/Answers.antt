use Rattle.repo_mirror.proofs.Lists.{lists}
use Rattle.repo_mirror.proofs.group_laws.mirrors_list_what_is_accepted.Goals as goal

pub returns : goal.returns
returns c = lists
