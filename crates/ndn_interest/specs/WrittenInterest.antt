-- The Interests that are written.
use Rattle.std.specs.Prelude.{ℕ, Bool, false, List, [], ◌∷◌, ◌++◌, Some, None, if◌then◌else◌}
use Rattle.sha2.specs.Sha256.{sha256}
use Rattle.ndn_tlv.specs.Types as types
use Rattle.ndn_tlv.specs.Spelling.{element}
use Rattle.ndn_name.specs.Names.{Component, encoding}
use Rattle.ndn_sign.specs.Hmac.{hmac}
use Rattle.ndn_packet.specs.SignatureInfo.{SignatureHmacWithSha256}
use Rattle.ndn_packet.specs.Written.{written_info}
use Rattle.ndn_interest.specs.Interest.{Interest}

-- CanBePrefix, where that is asked.
abbrev pub written_flag : Bool → List ℕ
written_flag can_be_prefix = if can_be_prefix then element types.CanBePrefix [] else []

-- Name, and CanBePrefix.
abbrev pub written_plain : List Component → Bool → List ℕ
written_plain name can_be_prefix =
    element types.Interest (element types.Name (encoding name) ++ written_flag can_be_prefix)

-- ApplicationParameters and InterestSignatureInfo, which are signed with the name.
abbrev pub written_signed_parameters : List ℕ → List Component → List ℕ
written_signed_parameters parameters key_name =
    element types.ApplicationParameters parameters
    ++ element types.InterestSignatureInfo (written_info key_name)

-- The same, and after them the mac as the signature: what the parameters digest is of.
abbrev pub written_digested : List Component → List ℕ → List Component → List ℕ → List ℕ
written_digested name parameters key_name key =
    let portion = written_signed_parameters parameters key_name in
    portion ++ element types.InterestSignatureValue (hmac key (encoding name ++ portion))

-- A name with the digest of these octets after it as its parameters digest.
abbrev pub with_digest_of : List ℕ → List Component → List Component
with_digest_of digested name = name ++ (types.ParametersSha256DigestComponent, sha256 digested) ∷ []

-- The Interest: the name with the parameters digest after it, and what that is of.
abbrev pub with_digest : List Component → List ℕ → List ℕ
with_digest name digested =
    element types.Interest
    (element types.Name (encoding (with_digest_of digested name)) ++ digested)

-- The signed Interest of this name and these parameters, under a key and its name.
abbrev pub written_interest : List Component → List ℕ → List Component → List ℕ → List ℕ
written_interest name parameters key_name key =
    with_digest name (written_digested name parameters key_name key)

-- What a plain Interest is read as.
abbrev pub read_plain : List Component → Bool → Interest
read_plain name can_be_prefix =
    record {
      name = name;
      can_be_prefix = can_be_prefix;
      must_be_fresh = false;
      nonce = None;
      lifetime = None;
      hop_limit = None;
      parameters = None;
      signature_type = None;
      locator = None;
      signature = None;
      signed = None;
      digested = None;
    }

-- What a signed Interest is read as. Its name has the parameters digest after it, and its
-- signature is the mac of what is signed: the name without that, and what stands before the
-- signature.
abbrev pub read_signed : List Component → List ℕ → List Component → List ℕ → Interest
read_signed name parameters key_name key =
    let portion = written_signed_parameters parameters key_name in
    let digested = written_digested name parameters key_name key in
    record {
      name = with_digest_of digested name;
      can_be_prefix = false;
      must_be_fresh = false;
      nonce = None;
      lifetime = None;
      hop_limit = None;
      parameters = Some parameters;
      signature_type = Some SignatureHmacWithSha256;
      locator = Some key_name;
      signature = Some (hmac key (encoding name ++ portion));
      signed = Some (encoding name, portion);
      digested = Some digested;
    }
