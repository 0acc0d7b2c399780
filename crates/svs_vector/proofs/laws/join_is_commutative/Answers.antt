use Rattle.svs_vector.proofs.JoinLemmas.{join_comm}
use Rattle.svs_vector.proofs.laws.join_is_commutative.Goals as goal

pub returns : goal.returns
returns c = join_comm
