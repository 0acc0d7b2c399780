use Rattle.std.proofs.Common.{subst}
use Rattle.svs_vector.proofs.ReportedLemmas.{Whole, vector_is_received}
use Rattle.svs_vector.proofs.vector_laws.state_vectors_tell_their_entries.Goals as goal

pub returns-clause-vector : goal.returns-clause-vector
returns-clause-vector c roster octets vector are h = subst (Whole roster octets) h (vector_is_received roster octets)
    are

pub returns-clause-fault : goal.returns-clause-fault
returns-clause-fault c roster octets fault h = subst (Whole roster octets) h (vector_is_received roster octets)
