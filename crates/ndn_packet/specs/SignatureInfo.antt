-- What a packet says of its signature (NDN Packet Format 0.3, "Signature").
use Rattle.std.specs.Prelude.{ℕ, List, [], ◌∷◌, Option, Some, None, Result, Ok, Err, ◌==◌, if◌then◌else◌}
use Rattle.ndn_tlv.specs.Types as types
use Rattle.ndn_tlv.specs.Listing.{gathered, ◌>>=◌}
use Rattle.ndn_tlv.specs.Elements.{Item, elements}
use Rattle.ndn_tlv.specs.OrderTable.{once, fields}
use Rattle.ndn_tlv.specs.declared.order_table.Place.{Place}
use Rattle.ndn_name.specs.declared.fault.Field.TheVariants as field
use Rattle.ndn_name.specs.declared.fault.PacketFault.{PacketFault}
use Rattle.ndn_name.specs.declared.fault.PacketFault.TheVariants.{Missing, BadField}
use Rattle.ndn_name.specs.Names.{Component}
use Rattle.ndn_name.specs.Faults.{packet_fault}
use Rattle.ndn_packet.specs.Contents.{ok_or, first_of, number_in, name_in}
use Rattle.ndn_packet.specs.declared.signature_info.InfoField.{InfoField}
use Rattle.ndn_packet.specs.declared.signature_info.InfoField.TheVariants.{SignatureType, KeyLocator}
use Rattle.ndn_packet.specs.declared.signature_info.SignatureInfo as declared_info
use Rattle.ndn_packet.specs.declared.signature_info.InfoFields.{InfoFields}

-- The signature type of HMAC with SHA-256, under the name that the standard gives it.
abbrev pub SignatureHmacWithSha256 : ℕ
SignatureHmacWithSha256 = 4

-- The places of the fields of a SignatureInfo, and of an InterestSignatureInfo.
abbrev pub signature_info_table : List (Place InfoField)
signature_info_table =
    once types.SignatureType SignatureType
    ∷ once types.KeyLocator KeyLocator
    ∷ []

-- How the packet is signed, and the name of the key, where its locator is a name.
pub record Info : Type 0 where
  pub signature_type : ℕ
  pub locator : Option (List Component)

-- The same, as far as the fields have come.
pub record InfoSoFar : Type 0 where
  pub signature_type : Option ℕ
  pub locator : Option (List Component)

-- What a key locator's first element gives: a name, or where it is a key's digest no name. Any
-- other is the fault.
abbrev pub locator_from : PacketFault → Item → Result (Option (List Component)) PacketFault
locator_from bad first =
    if first.typ == types.Name then (name_in bad first >>= λ name. Ok (Some name))
    else if first.typ == types.KeyDigest then Ok None
    else Err bad

-- A key locator is what its first element is. What follows that element is not looked at.
abbrev pub locator_in : Item → Result (Option (List Component)) PacketFault
locator_in e =
    first_of (BadField field.KeyLocator e.start) e.value_start e.value
    >>= locator_from (BadField field.KeyLocator e.start)

-- The fields so far with one more, or the fault of that one.
abbrev pub with_info_field : InfoSoFar → InfoField × Item → Result InfoSoFar PacketFault
with_info_field s (SignatureType, e) =
    number_in field.SignatureType e >>= λ n. Ok (record s { signature_type = Some n })
with_info_field s (KeyLocator, e) = locator_in e >>= λ locator. Ok (record s { locator = locator })

-- The fields in the order of their table, and what is in them.
abbrev pub info_fields : Item → Result InfoSoFar PacketFault
info_fields e =
    gathered with_info_field packet_fault (record { signature_type = None; locator = None })
    (fields signature_info_table (elements e.value_start e.value))

-- The signature info of these fields. A signature type is needed.
abbrev pub info_from : InfoSoFar → Result Info PacketFault
info_from s =
    ok_or s.signature_type (Missing field.SignatureType)
    >>= λ n. Ok (record { signature_type = n; locator = s.locator })

-- The signature info that an element is.
abbrev pub info_in : Item → Result Info PacketFault
info_in e = info_fields e >>= info_from

-- ---- the structs without where their octets lie in memory

-- The signature info that was read.
abbrev pub info : declared_info.SignatureInfo → Info
info i = record { signature_type = i.signature_type; locator = i.locator }

-- The fields that were read so far.
abbrev pub info_so_far : InfoFields → InfoSoFar
info_so_far g = record { signature_type = g.signature_type; locator = g.locator }
