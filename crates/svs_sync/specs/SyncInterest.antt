-- Sync Interests (State Vector Sync, in the profile of this project): which octets one is, and what it says, or why it
-- is refused.
use Rattle.std.specs.Prelude.{◌≡◌, ℕ, ◌≤◌, Bool, ◌&&◌, List, [], ◌∷◌, ◌++◌, length, unwrap_or, Result, Ok, Err}
use Rattle.ndn_tlv.specs.Types as types
use Rattle.ndn_tlv.specs.Listing.{◌>>=◌}
use Rattle.ndn_name.specs.declared.fault.PacketFault.{PacketFault}
use Rattle.ndn_name.specs.Names.{Component, encoding}
use Rattle.ndn_sign.specs.Ring.{NamedKey}
use Rattle.ndn_interest.specs.declared.signature_error.SignatureError.{SignatureError}
use Rattle.ndn_interest.specs.declared.signature_error.SignatureError.TheVariants as signature
use Rattle.ndn_interest.specs.Interest.{Interest, interest_of, without_last, ends_in_digest}
use Rattle.ndn_interest.specs.Signer.{ensured, signer_of}
use Rattle.ndn_interest.specs.WrittenInterest.{written_interest}
use Rattle.svs_vector.specs.declared.vector_fault.VectorFault.{VectorFault}
use Rattle.svs_vector.specs.Rosters.{has_same_octets}
use Rattle.svs_vector.specs.StateVector.{vector_of}
use Rattle.svs_vector.specs.WrittenVector.{written_vector}
use Rattle.svs_sync.specs.declared.sync_refusal.SyncRefusal.{SyncRefusal}
use Rattle.svs_sync.specs.declared.sync_refusal.SyncRefusal.TheVariants.{Packet, WrongGroup, Unsigned, ParamsDigest}
use Rattle.svs_sync.specs.declared.sync_refusal.SyncRefusal.TheVariants.{UnknownKey, BadSignature, Vector}

-- ---- names

-- The name of a group's sync Interests without the parameters digest: the group's name, and version 2.
abbrev pub sync_name : List Component → List Component
sync_name group = group ++ (types.VersionNameComponent, 2 ∷ []) ∷ []

-- The name of a node, or of a group: 1 to 200 octets of value.
abbrev pub IsNodeName : List Component → Type 0
IsNodeName name = (1 ≤ length (encoding name)) × (length (encoding name) ≤ 200)

-- The component after a node's name in the name of its key: the generic component KEY.
abbrev pub key_component : Component
key_component = (types.GenericNameComponent, 75 ∷ 69 ∷ 89 ∷ [])

-- The name of a node's key.
pub record IsKeyName (name : List Component) : Type 0 where
  pub node : List Component
  pub parts : name ≡ node ++ key_component ∷ []
  pub limits : IsNodeName node

-- ---- writing

-- The sync Interest with the numbers `vector` of the members `roster`, signed under the key of this name: its
-- parameters are the state vector.
abbrev pub sync_interest : List Component → List ℕ → List (List Component) → List Component → List ℕ → List ℕ
sync_interest group vector roster key_name key =
    written_interest (sync_name group) (written_vector roster vector) key_name key

-- ---- checking

-- An Interest, or its fault as a refusal of the sync Interest.
abbrev pub packet_or : Result Interest PacketFault → Result Interest SyncRefusal
packet_or (Ok interest) = Ok interest
packet_or (Err fault) = Err (Packet fault)

-- The refusal of a sync Interest whose signature doesn't pass, by the reason.
abbrev pub unsigned_as : SignatureError → SyncRefusal
unsigned_as signature.Unsigned = Unsigned
unsigned_as signature.ParamsDigest = ParamsDigest
unsigned_as signature.UnknownKey = UnknownKey
unsigned_as signature.BadSignature = BadSignature

-- The number of the signer, or a refusal of the sync Interest.
abbrev pub signed_or : Result ℕ SignatureError → Result ℕ SyncRefusal
signed_or (Ok signer) = Ok signer
signed_or (Err refusal) = Err (unsigned_as refusal)

-- The vector, or a refusal of the sync Interest.
abbrev pub vector_or : Result (List ℕ) VectorFault → Result (List ℕ) SyncRefusal
vector_or (Ok vector) = Ok vector
vector_or (Err fault) = Err (Vector fault)

-- The name is that of the group's sync Interests, with a parameters digest after it.
abbrev pub is_sync_name : List Component → List Component → Bool
is_sync_name group name = has_same_octets (without_last name) (sync_name group) && ends_in_digest name

-- The number of the key that signed an Interest, and its vector; or the first refusal.
abbrev pub sync_interest_verdict : List Component → List (List Component) → List NamedKey → Interest
    → Result (ℕ × List ℕ) SyncRefusal
sync_interest_verdict group roster ring i = do
  _ ← ensured (is_sync_name group i.name) WrongGroup
  signer ← signed_or (signer_of ring i)
  vector ← vector_or (vector_of roster (unwrap_or i.parameters []))
  Ok (signer, vector)

-- The number of the key that signed the sync Interest `octets`, and its vector; or the first refusal.
abbrev pub sync_verdict : List Component → List (List Component) → List NamedKey → List ℕ
    → Result (ℕ × List ℕ) SyncRefusal
sync_verdict group roster ring octets =
    packet_or (interest_of octets) >>= sync_interest_verdict group roster ring
