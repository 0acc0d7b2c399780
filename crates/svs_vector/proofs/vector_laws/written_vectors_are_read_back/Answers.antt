use Rattle.svs_vector.proofs.ReadBackLemmas.{read_back}
use Rattle.svs_vector.proofs.vector_laws.written_vectors_are_read_back.Goals as goal

pub returns : goal.returns
returns c = read_back
