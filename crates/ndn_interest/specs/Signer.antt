-- Who signed an Interest, among those whose keys a ring has, or the first reason why nobody did (NDN Packet Format 0.3,
-- "Signed Interest"; RFC 2104).
use Rattle.std.specs.Prelude.{ℕ, Bool, false, ◌&&◌, List, ◌++◌, Option, Some, None, ok_or, Result, Ok, Err, slice_get}
use Rattle.std.specs.Prelude.{◌==◌, if◌then◌else◌}
use Rattle.std.specs.Option.{option_map_or}
use Rattle.std.specs.Str.{bytes_eq}
use Rattle.sha2.specs.Sha256.{sha256}
use Rattle.ndn_tlv.specs.Types as types
use Rattle.ndn_tlv.specs.Listing.{◌>>=◌}
use Rattle.ndn_name.specs.Names.{Component, encoding}
use Rattle.ndn_sign.specs.Hmac.{hmac}
use Rattle.ndn_sign.specs.Ring.{NamedKey, key_number}
use Rattle.ndn_packet.specs.SignatureInfo.{SignatureHmacWithSha256}
use Rattle.ndn_interest.specs.Interest.{Interest, last_component}
use Rattle.ndn_interest.specs.declared.signature_error.SignatureError.{SignatureError}
use Rattle.ndn_interest.specs.declared.signature_error.SignatureError.TheVariants.{Unsigned, ParamsDigest}
use Rattle.ndn_interest.specs.declared.signature_error.SignatureError.TheVariants.{UnknownKey, BadSignature}

-- A refusal, where a test fails.
abbrev pub ensured : {E : Type 0} → Bool → E → Result (Unit {0}) E
ensured passes refusal = if passes then Ok tt else Err refusal

-- The last component of the name is the digest of the octets.
abbrev pub is_digest_of : List ℕ → Option Component → Bool
is_digest_of octets None = false
is_digest_of octets (Some last) = last.0 == types.ParametersSha256DigestComponent && bytes_eq last.1 (sha256 octets)

-- The parameters digest in the name is the right one.
abbrev pub has_its_digest : Interest → Bool
has_its_digest i = option_map_or (λ octets. is_digest_of octets (last_component i.name)) i.digested false

-- The number of the key that the Interest names, where it is signed by HMAC with SHA-256.
abbrev pub located_key : List NamedKey → Option ℕ → Option (List Component) → Option ℕ
located_key ring (Some typ) (Some name) = if typ == SignatureHmacWithSha256 then key_number (encoding name) ring
    else None
located_key ring (Some typ) None = None
located_key ring None locator = None

-- The signature is the mac of what is signed under the key of that number.
abbrev pub is_mac : List ℕ × List ℕ → Option NamedKey → List ℕ → Bool
is_mac signed None signature = false
is_mac signed (Some pair) signature = bytes_eq (hmac pair.key (signed.0 ++ signed.1)) signature

-- The signature is the mac under the key that has this number in the ring.
abbrev pub is_signed : List NamedKey → ℕ → List ℕ × List ℕ → Interest → Bool
is_signed ring signer signed i = option_map_or (is_mac signed (slice_get ring signer)) i.signature false

-- The number of the key that signed an Interest, or the first refusal.
abbrev pub signer_of : List NamedKey → Interest → Result ℕ SignatureError
signer_of ring i = do
  signed ← ok_or i.signed Unsigned
  _ ← ensured (has_its_digest i) ParamsDigest
  signer ← ok_or (located_key ring i.signature_type i.locator) UnknownKey
  _ ← ensured (is_signed ring signer signed i) BadSignature
  Ok signer
