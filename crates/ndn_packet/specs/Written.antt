-- The signature info that is written (NDN Packet Format 0.3, "Signature").
use Rattle.std.specs.Prelude.{ℕ, List, [], ◌∷◌, ◌++◌}
use Rattle.ndn_tlv.specs.Types as types
use Rattle.ndn_tlv.specs.Spelling.{element}
use Rattle.ndn_name.specs.Names.{Component, encoding}
use Rattle.ndn_packet.specs.SignatureInfo.{SignatureHmacWithSha256}

-- It says that the packet is signed by HMAC with SHA-256, and names the key.
abbrev pub written_info : List Component → List ℕ
written_info key_name =
    element types.SignatureType (SignatureHmacWithSha256 ∷ [])
    ++ element types.KeyLocator (element types.Name (encoding key_name))
