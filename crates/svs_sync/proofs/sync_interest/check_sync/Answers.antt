use Rattle.std.proofs.Common.{ℕ, List, Result, subst}
use Rattle.std.specs.Prelude.{IfErr, ◌≢◌}
use Rattle.std.proofs.lemmas.Result.{err_from_is_err_and}
use Rattle.svs_vector.specs.declared.vector_fault.VectorFault.TheVariants as fault
use Rattle.svs_sync.specs.declared.sync_refusal.SyncRefusal.{SyncRefusal}
use Rattle.svs_sync.specs.declared.sync_refusal.SyncRefusal.TheVariants.{NoMemory, Vector}
use Rattle.svs_sync.proofs.RefusalLemmas.{refused_for_octets}
use Rattle.svs_sync.proofs.sync_interest.check_sync.Goals as goal

pub returns-in_err-signer-clause-vector : goal.returns-in_err-signer-clause-vector
returns-in_err-signer-clause-vector c =
    let P : Result (ℕ × List ℕ) SyncRefusal → Type 0 =
    λ r. IfErr r (λ refusal. (refusal ≢ NoMemory) × (refusal ≢ Vector fault.NoMemory)) in
    let other =
    subst P c.in_err-signer.ensures.verdict
    (refused_for_octets c.args.group.now c.args.roster.now c.args.ring.now c.args.octets.now) in
    let p = err_from_is_err_and c.from_residual.result c.from_residual.ensures.1 in
    λ e. absurd (other.1 cc)
