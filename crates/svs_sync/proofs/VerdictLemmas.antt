-- The verdict on a sync Interest that was made.
use Rattle.std.proofs.Common.{◌≡◌, ℕ, ◌≤◌, List, [], ◌∷◌, length, slice_get, Some, Result, Ok, refl, ap}
use Rattle.std.proofs.Common.{◌∙◌}
use Rattle.std.specs.List.{All}
use Rattle.sha2.specs.Sha256.{sha256}
use Rattle.ndn_tlv.specs.Listing.{◌>>=◌}
use Rattle.ndn_name.specs.declared.fault.PacketFault.{PacketFault}
use Rattle.ndn_name.specs.Names.{Component, IsName, encoding}
use Rattle.ndn_name.proofs.Encodings.{IsName-append}
use Rattle.ndn_sign.specs.Ring.{NamedKey, key_number, pair}
use Rattle.ndn_interest.specs.Interest.{Interest}
use Rattle.ndn_interest.specs.WrittenInterest.{written_digested, read_signed}
use Rattle.ndn_interest.proofs.ReadBackLemmas.{signed_again}
use Rattle.ndn_interest.proofs.SignerLemmas.{signer_again}
use Rattle.svs_vector.specs.StateVector.{vector_of}
use Rattle.svs_vector.specs.WrittenVector.{written_vector}
use Rattle.svs_sync.specs.SyncInterest.{sync_name, sync_interest, sync_verdict, sync_interest_verdict, packet_or}
use Rattle.svs_sync.specs.SyncInterest.{IsNodeName, IsKeyName}
use Rattle.svs_sync.proofs.NameLemmas.{version, is_sync_name-made}
use Rattle.svs_sync.proofs.LengthLemmas.{sync_interest_short}

module _ (group : List Component) (roster : List (List Component)) (ring : List NamedKey) (vector : List ℕ)
    (key_name : List Component) (key : List ℕ) (signer : ℕ) (found : key_number (encoding key_name) ring ≡ Some signer)
    (at : slice_get ring signer ≡ Some (pair (encoding key_name) key))
    (read : vector_of roster (written_vector roster vector) ≡ Ok vector) where
  made_verdict : sync_interest_verdict group roster ring
      (read_signed (sync_name group) (written_vector roster vector) key_name key)
      ≡ Ok (signer, vector)
  made_verdict =
      let name = sync_name group in
      let parameters = written_vector roster vector in
      let digest = sha256 (written_digested name parameters key_name key) in
      rw (is_sync_name-made group digest, signer_again name key_name parameters key ring signer found at, read) refl

  pub made_is_checked : IsName group → IsNodeName group → length roster ≤ 16 → All IsNodeName roster → IsName key_name
      → IsKeyName key_name
      → sync_verdict group roster ring (sync_interest group vector roster key_name key) ≡ Ok (signer, vector)
  made_is_checked valid_group limits few members valid_key named =
      let name = sync_name group in
      let short = sync_interest_short group vector roster key_name key limits few members named in
      let packet =
      signed_again name key_name (written_vector roster vector) key
      (IsName-append group ((0x36, 2 ∷ []) ∷ []) valid_group (version, tt)) valid_key short in
      ap (λ (r : Result Interest PacketFault). packet_or r >>= sync_interest_verdict group roster ring) packet
      ∙ made_verdict
