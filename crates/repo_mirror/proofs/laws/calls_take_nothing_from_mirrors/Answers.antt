use Rattle.repo_mirror.proofs.CallLemmas.{stored_stays, passed_stays, knows_the_join}
use Rattle.repo_mirror.proofs.laws.calls_take_nothing_from_mirrors.Goals as goal

pub returns-clause-stored : goal.returns-clause-stored
returns-clause-stored c = stored_stays

pub returns-clause-passed : goal.returns-clause-passed
returns-clause-passed c = passed_stays

pub returns-clause-known : goal.returns-clause-known
returns-clause-known c = knows_the_join
