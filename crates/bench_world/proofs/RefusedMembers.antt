-- The member that a refused sync Interest reports is one of the roster.
use Rattle.std.proofs.Common.{ℕ, Bool, true, false, List, [], length}
use Rattle.std.specs.Prelude.{Result, Ok, Err, IfErr, unwrap_or}
use Rattle.ndn_tlv.specs.Listing.{◌>>=◌}
use Rattle.ndn_name.specs.declared.fault.PacketFault.{PacketFault}
use Rattle.ndn_name.specs.Names.{Component}
use Rattle.ndn_sign.specs.Ring.{NamedKey}
use Rattle.ndn_interest.specs.declared.signature_error.SignatureError.{SignatureError}
use Rattle.ndn_interest.specs.declared.signature_error.SignatureError.TheVariants as signature
use Rattle.ndn_interest.specs.Interest.{Interest, interest_of}
use Rattle.ndn_interest.specs.Signer.{ensured, signer_of}
use Rattle.svs_vector.specs.declared.vector_fault.VectorFault.{VectorFault}
use Rattle.svs_vector.specs.StateVector.{vector_of}
use Rattle.svs_vector.proofs.FaultLemmas.{err_of_two, of_vector}
use Rattle.svs_sync.specs.declared.sync_refusal.SyncRefusal.{SyncRefusal}
use Rattle.svs_sync.specs.declared.sync_refusal.SyncRefusal.TheVariants.{WrongGroup}
use Rattle.svs_sync.specs.SyncInterest.{packet_or, unsigned_as, signed_or, vector_or, is_sync_name}
use Rattle.svs_sync.specs.SyncInterest.{sync_interest_verdict, sync_verdict}
use Rattle.bench_world.specs.Steps.{FaultNamesMember, SyncNamesMember}

module _ (roster : List (List Component)) where
  abbrev Named : SyncRefusal → Type 0
  Named = SyncNamesMember (length roster)

  of_packet : (r : Result Interest PacketFault) → IfErr (packet_or r) Named
  of_packet (Ok i) = tt
  of_packet (Err fault) = tt

  of_group : (b : Bool) → IfErr (ensured b WrongGroup) Named
  of_group true = tt
  of_group false = tt

  of_signature : (x : SignatureError) → Named (unsigned_as x)
  of_signature signature.Unsigned = tt
  of_signature signature.ParamsDigest = tt
  of_signature signature.UnknownKey = tt
  of_signature signature.BadSignature = tt

  of_signer : (r : Result ℕ SignatureError) → IfErr (signed_or r) Named
  of_signer (Ok signer) = tt
  of_signer (Err refusal) = of_signature refusal

  of_numbers : (r : Result (List ℕ) VectorFault) → IfErr r (FaultNamesMember (length roster))
      → IfErr (vector_or r) Named
  of_numbers (Ok v) named = tt
  of_numbers (Err fault) named = named

  of_interest : (group : List Component) (ring : List NamedKey) (i : Interest)
      → IfErr (sync_interest_verdict group roster ring i) Named
  of_interest group ring i =
      let received = vector_of roster (unwrap_or i.parameters []) in
      err_of_two Named (ensured (is_sync_name group i.name) WrongGroup)
      (λ u. signed_or (signer_of ring i) >>= λ signer. vector_or received >>= λ v. Ok (signer, v))
      (of_group (is_sync_name group i.name))
      (λ u. err_of_two Named (signed_or (signer_of ring i)) (λ signer. vector_or received >>= λ v. Ok (signer, v))
      (of_signer (signer_of ring i))
      (λ signer. err_of_two Named (vector_or received) (λ v. Ok (signer, v))
      (of_numbers received
      (of_vector roster (FaultNamesMember (length roster)) (λ at. tt) (λ m n there. there) (unwrap_or i.parameters [])))
      (λ v. tt)))

  pub refused_in_roster : (group : List Component) (ring : List NamedKey) (octets : List ℕ)
      → IfErr (sync_verdict group roster ring octets) Named
  refused_in_roster group ring octets =
      err_of_two Named (packet_or (interest_of octets)) (sync_interest_verdict group roster ring)
      (of_packet (interest_of octets)) (of_interest group ring)
