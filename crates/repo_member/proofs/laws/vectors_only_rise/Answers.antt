use Rattle.repo_member.proofs.CallVectors.{numbers_never_fall, known_is_the_join}
use Rattle.repo_member.proofs.laws.vectors_only_rise.Goals as goal

pub returns-clause-rise : goal.returns-clause-rise
returns-clause-rise c = numbers_never_fall

pub returns-clause-join : goal.returns-clause-join
returns-clause-join c = known_is_the_join
