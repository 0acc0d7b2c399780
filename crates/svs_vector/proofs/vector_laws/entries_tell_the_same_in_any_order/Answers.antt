use Rattle.svs_vector.proofs.ReadBackLemmas.{reported_same}
use Rattle.svs_vector.proofs.vector_laws.entries_tell_the_same_in_any_order.Goals as goal

pub returns : goal.returns
returns c = reported_same
