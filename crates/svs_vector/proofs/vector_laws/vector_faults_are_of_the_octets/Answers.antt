use Rattle.svs_vector.proofs.FaultLemmas.{faults_of_octets}
use Rattle.svs_vector.proofs.vector_laws.vector_faults_are_of_the_octets.Goals as goal

pub returns : goal.returns
returns c = faults_of_octets
