use Rattle.svs_vector.proofs.JoinLemmas.{join_idem, join_again}
use Rattle.svs_vector.proofs.laws.join_is_idempotent.Goals as goal

pub returns-clause-itself : goal.returns-clause-itself
returns-clause-itself c = join_idem

pub returns-clause-again : goal.returns-clause-again
returns-clause-again c = join_again
