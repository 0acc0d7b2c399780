use Rattle.repo_watch.proofs.LawLemmas.{announced_once}
use Rattle.repo_watch.proofs.laws.objects_are_announced_once.Goals as goal

pub returns : goal.returns
returns c = announced_once
