-- The Data packets that are written.
use Rattle.std.specs.Prelude.{ℕ, List, [], ◌++◌, Option, Some, None, option_map}
use Rattle.ndn_tlv.specs.Types as types
use Rattle.ndn_tlv.specs.Spelling.{element}
use Rattle.ndn_tlv.specs.NumberField.{number_field}
use Rattle.ndn_name.specs.Names.{Component, encoding}
use Rattle.ndn_sign.specs.Hmac.{hmac}
use Rattle.ndn_packet.specs.SignatureInfo.{SignatureHmacWithSha256}
use Rattle.ndn_packet.specs.Written.{written_info}
use Rattle.ndn_data.specs.MetaInfo.{Blob}
use Rattle.ndn_data.specs.Data.{Data}
use Rattle.ndn_data.specs.declared.write.Unsigned.{Unsigned}

-- A FinalBlockId that names the last segment of the object by its number.
abbrev pub final_block : ℕ → List ℕ
final_block last =
    element types.FinalBlockId (element types.SegmentNameComponent (number_field last))

-- A MetaInfo with it, or no element.
abbrev pub written_meta : Option ℕ → List ℕ
written_meta None = []
written_meta (Some last) = element types.MetaInfo (final_block last)

-- Name, MetaInfo, Content and SignatureInfo, which are signed.
abbrev pub written_signed : List Component → Option ℕ → List ℕ → List Component → List ℕ
written_signed name last content key_name =
    element types.Name (encoding name)
    ++ written_meta last
    ++ element types.Content content
    ++ element types.SignatureInfo (written_info key_name)

-- A packet of what is signed, and the mac of that under the key.
abbrev pub signed : List ℕ → List ℕ → List ℕ
signed portion key =
    element types.Data (portion ++ element types.SignatureValue (hmac key portion))

-- The packet of this name and content, signed under the key. It may name the last segment.
abbrev pub written_data : List Component → Option ℕ → List ℕ → List Component → List ℕ → List ℕ
written_data name last content key_name key =
    signed (written_signed name last content key_name) key

-- What is signed of a packet that is to be written.
abbrev pub unsigned : Unsigned → List ℕ
unsigned u = written_signed u.name.now u.last u.content.now u.key_name.now

-- What the packet is read as.
abbrev pub read_back : List Component → Option ℕ → List ℕ → List Component → List ℕ → Data
read_back name last content key_name key =
    let portion = written_signed name last content key_name in
    record {
      name = name;
      content = content;
      content_type = Blob;
      last = option_map (λ n. (types.SegmentNameComponent, number_field n)) last;
      signature_type = SignatureHmacWithSha256;
      locator = Some key_name;
      signature = hmac key portion;
      signed = portion;
      value = portion ++ element types.SignatureValue (hmac key portion);
    }
