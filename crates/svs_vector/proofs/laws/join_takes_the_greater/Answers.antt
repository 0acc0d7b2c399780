use Rattle.svs_vector.proofs.JoinLemmas.{join-at, join_all-at}
use Rattle.svs_vector.proofs.laws.join_takes_the_greater.Goals as goal

pub returns-clause-two : goal.returns-clause-two
returns-clause-two c = join-at

pub returns-clause-all : goal.returns-clause-all
returns-clause-all c = join_all-at
