use Rattle.std.proofs.Common.{ℕ, List, Result, subst}
use Rattle.std.specs.Prelude.{IfErr, ◌≢◌}
use Rattle.std.proofs.lemmas.Result.{err_from_is_err_and}
use Rattle.svs_vector.specs.declared.vector_fault.VectorFault.{VectorFault}
use Rattle.svs_vector.specs.declared.vector_fault.VectorFault.TheVariants.{NoMemory}
use Rattle.svs_vector.proofs.FaultLemmas.{faults_of_octets}
use Rattle.svs_vector.proofs.vector.Vector.read.Goals as goal

pub returns-in_err-received-clause-memory : goal.returns-in_err-received-clause-memory
returns-in_err-received-clause-memory c =
    let P : Result (List ℕ) VectorFault → Type 0 = λ r. IfErr r (λ f. f ≢ NoMemory) in
    let other = subst P c.in_err-received.ensures.received (faults_of_octets c.args.roster.now c.args.octets.now) in
    let p = err_from_is_err_and c.from_residual.result c.from_residual.ensures.1 in
    λ e. absurd (other cc)
