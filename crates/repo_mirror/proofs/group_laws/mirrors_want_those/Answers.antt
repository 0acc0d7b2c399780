use Rattle.repo_mirror.proofs.Wants.{want_those}
use Rattle.repo_mirror.proofs.group_laws.mirrors_want_those.Goals as goal

pub returns : goal.returns
returns c = want_those
