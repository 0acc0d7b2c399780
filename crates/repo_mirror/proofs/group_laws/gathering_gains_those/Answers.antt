use Rattle.repo_mirror.proofs.Settling.{exactly}
use Rattle.repo_mirror.proofs.group_laws.gathering_gains_those.Goals as goal

pub returns : goal.returns
returns c = exactly
