use Rattle.svs_vector.proofs.SortedLemmas.{names_rise, known_in_order}
use Rattle.svs_vector.proofs.vector_laws.entries_are_written_in_canonical_order.Goals as goal

pub returns-clause-rises : goal.returns-clause-rises
returns-clause-rises c = names_rise

pub returns-clause-same : goal.returns-clause-same
returns-clause-same c = known_in_order
