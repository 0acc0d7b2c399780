-- A refusal that octets get is never out of memory, nor is the fault of its vector.
use Rattle.std.proofs.Common.{ℕ, Bool, true, false, List, [], Result, Ok, Err}
use Rattle.std.specs.Prelude.{IfErr, ◌≢◌, unwrap_or}
use Rattle.ndn_tlv.specs.Listing.{◌>>=◌}
use Rattle.ndn_name.specs.declared.fault.PacketFault.{PacketFault}
use Rattle.ndn_name.specs.Names.{Component}
use Rattle.ndn_sign.specs.Ring.{NamedKey}
use Rattle.ndn_interest.specs.declared.signature_error.SignatureError.{SignatureError}
use Rattle.ndn_interest.specs.declared.signature_error.SignatureError.TheVariants.{Unsigned, ParamsDigest}
use Rattle.ndn_interest.specs.declared.signature_error.SignatureError.TheVariants.{UnknownKey, BadSignature}
use Rattle.ndn_interest.specs.Interest.{Interest, interest_of}
use Rattle.ndn_interest.specs.Signer.{ensured, signer_of}
use Rattle.svs_vector.specs.declared.vector_fault.VectorFault.{VectorFault}
use Rattle.svs_vector.specs.declared.vector_fault.VectorFault.TheVariants as vector
use Rattle.svs_vector.specs.StateVector.{vector_of}
use Rattle.svs_vector.proofs.FaultLemmas.{faults_of_octets}
use Rattle.svs_sync.specs.declared.sync_refusal.SyncRefusal.{SyncRefusal}
use Rattle.svs_sync.specs.declared.sync_refusal.SyncRefusal.TheVariants.{WrongGroup, Vector, NoMemory}
use Rattle.svs_sync.specs.SyncInterest.{packet_or, signed_or, vector_or, is_sync_name, sync_interest_verdict}
use Rattle.svs_sync.specs.SyncInterest.{sync_verdict}

abbrev IsOfOctets : SyncRefusal → Type 0
IsOfOctets refusal = (refusal ≢ NoMemory) × (refusal ≢ Vector vector.NoMemory)

apart : (refusal : SyncRefusal) → refusal ≢ NoMemory → refusal ≢ Vector vector.NoMemory → IsOfOctets refusal
apart refusal a b = (a, b)

-- Where `r` and `f` fail only with refusals of the octets, so does the one after the other.
then_err : {A B : Type 0} (r : Result A SyncRefusal) (f : A → Result B SyncRefusal) → IfErr r IsOfOctets
    → ((x : A) → IfErr (f x) IsOfOctets) → IfErr (r >>= f) IsOfOctets
then_err (Ok x) f h k = k x
then_err (Err e) f h k = h

packet_err : (r : Result Interest PacketFault) → IfErr (packet_or r) IsOfOctets
packet_err (Ok i) = tt
packet_err (Err f) = apart _ (λ e. absurd cc) (λ e. absurd cc)

ensured_err : (b : Bool) → IfErr (ensured b WrongGroup) IsOfOctets
ensured_err true = tt
ensured_err false = apart _ (λ e. absurd cc) (λ e. absurd cc)

signed_err : (r : Result ℕ SignatureError) → IfErr (signed_or r) IsOfOctets
signed_err (Ok n) = tt
signed_err (Err Unsigned) = apart _ (λ e. absurd cc) (λ e. absurd cc)
signed_err (Err ParamsDigest) = apart _ (λ e. absurd cc) (λ e. absurd cc)
signed_err (Err UnknownKey) = apart _ (λ e. absurd cc) (λ e. absurd cc)
signed_err (Err BadSignature) = apart _ (λ e. absurd cc) (λ e. absurd cc)

received_err : (r : Result (List ℕ) VectorFault) → IfErr r (λ fault. fault ≢ vector.NoMemory)
    → IfErr (vector_or r) IsOfOctets
received_err (Ok v) h = tt
received_err (Err f) h = apart (Vector f) (λ e. absurd cc) (λ e. h cc)

module _ (group : List Component) (roster : List (List Component)) (ring : List NamedKey) where
  interest_err : (i : Interest) → IfErr (sync_interest_verdict group roster ring i) IsOfOctets
  interest_err i =
      then_err (ensured (is_sync_name group i.name) WrongGroup) _ (ensured_err (is_sync_name group i.name))
      (λ _. then_err (signed_or (signer_of ring i)) _ (signed_err (signer_of ring i)) (λ signer.
      then_err (vector_or (vector_of roster (unwrap_or i.parameters []))) (λ v. Ok (signer, v))
      (received_err (vector_of roster (unwrap_or i.parameters []))
      (faults_of_octets roster (unwrap_or i.parameters [])))
      (λ v. tt)))

pub refused_for_octets : (group : List Component) (roster : List (List Component)) (ring : List NamedKey)
    (octets : List ℕ) → IfErr (sync_verdict group roster ring octets)
    (λ refusal. (refusal ≢ NoMemory) × (refusal ≢ Vector vector.NoMemory))
refused_for_octets group roster ring octets =
    then_err (packet_or (interest_of octets)) (sync_interest_verdict group roster ring)
    (packet_err (interest_of octets)) (interest_err group roster ring)
