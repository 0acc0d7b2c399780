use Rattle.svs_vector.proofs.JoinLemmas.{join_assoc}
use Rattle.svs_vector.proofs.laws.join_is_associative.Goals as goal

pub returns : goal.returns
returns c = join_assoc
