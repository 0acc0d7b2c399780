use Rattle.repo_mirror.proofs.Settling.{settled}
use Rattle.repo_mirror.proofs.group_laws.settled_mirrors_hold_what_comes.Goals as goal

pub returns : goal.returns
returns c = settled
