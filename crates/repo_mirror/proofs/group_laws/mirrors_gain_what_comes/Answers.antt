use Rattle.repo_mirror.proofs.Gains.{gain}
use Rattle.repo_mirror.proofs.group_laws.mirrors_gain_what_comes.Goals as goal

pub returns : goal.returns
returns c = gain
