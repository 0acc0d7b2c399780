-- How octets are read as a Data packet, or the first fault (NDN Packet Format 0.3, "Data Packet").
use Rattle.std.specs.Prelude.{◌≡◌, ◌⊎◌, ℕ, ◌≤◌, Bool, IsTrue, List, [], ◌∷◌, ◌++◌, Option, Some, None, option_map}
use Rattle.std.specs.Prelude.{IfSome, Result, Ok, slice_range}
use Rattle.ndn_tlv.specs.Types as types
use Rattle.ndn_tlv.specs.Spelling.{element}
use Rattle.ndn_tlv.specs.Listing.{gathered, ◌>>=◌}
use Rattle.ndn_tlv.specs.Elements.{Item, elements}
use Rattle.ndn_tlv.specs.OrderTable.{once, fields}
use Rattle.ndn_tlv.specs.declared.order_table.Place.{Place}
use Rattle.ndn_name.specs.declared.fault.Field.TheVariants as field
use Rattle.ndn_name.specs.declared.fault.PacketFault.{PacketFault}
use Rattle.ndn_name.specs.declared.fault.PacketFault.TheVariants.{Missing, BadField}
use Rattle.ndn_name.specs.Names.{Component, component, encoding, full_name}
use Rattle.ndn_name.specs.Faults.{packet_fault}
use Rattle.ndn_packet.specs.Contents.{ok_or, name_in}
use Rattle.ndn_packet.specs.SignatureInfo.{Info, info_in, info}
use Rattle.ndn_packet.specs.Outer.{outer_of}
use Rattle.ndn_name.specs.CanonicalOrder.{IsPrefix}
use Rattle.ndn_data.specs.MetaInfo.{Meta, plain, meta_in, meta}
use Rattle.ndn_data.specs.declared.data_fields.DataField.{DataField}
use Rattle.ndn_data.specs.declared.data_fields.DataField.TheVariants.{Name, MetaInfo, Content, SignatureInfo}
use Rattle.ndn_data.specs.declared.data_fields.DataField.TheVariants.{SignatureValue}
use Rattle.ndn_data.specs.declared.data_fields.DataFields.{DataFields}
use Rattle.ndn_data.specs.declared.data_view.DataView.{DataView}

-- The places of the fields of a Data packet.
abbrev pub data_table : List (Place DataField)
data_table =
    once types.Name Name
    ∷ once types.MetaInfo MetaInfo
    ∷ once types.Content Content
    ∷ once types.SignatureInfo SignatureInfo
    ∷ once types.SignatureValue SignatureValue
    ∷ []

-- A Data packet: its fields, the octets that are signed, and the value of the packet's element.
pub record Data : Type 0 where
  pub name : List Component
  pub content : List ℕ
  pub content_type : ℕ
  pub last : Option Component
  pub signature_type : ℕ
  pub locator : Option (List Component)
  pub signature : List ℕ
  pub signed : List ℕ
  pub value : List ℕ

-- The fields as far as they have come. A name has its element's offset with it, and a signature
-- what it signs.
pub record DataSoFar : Type 0 where
  pub name : Option (ℕ × List Component)
  pub meta : Meta
  pub content : List ℕ
  pub info : Option Info
  pub signature : Option (List ℕ × List ℕ)

-- Before the first field.
abbrev pub no_data_field : DataSoFar
no_data_field = record { name = None; meta = plain; content = []; info = None; signature = None }

-- The octets from the beginning of the Name to this offset.
abbrev pub signed_before : List ℕ → Option (ℕ × List Component) → ℕ → List ℕ
signed_before octets None offset = []
signed_before octets (Some name) offset = slice_range octets name.0 offset

-- The fields so far with one more, or the fault of that one.
abbrev pub with_data_field : List ℕ → DataSoFar → DataField × Item → Result DataSoFar PacketFault
with_data_field octets s (Name, e) =
    name_in (BadField field.Name e.start) e
    >>= λ name. Ok (record s { name = Some (e.start, name) })
with_data_field octets s (MetaInfo, e) = meta_in e >>= λ m. Ok (record s { meta = m })
with_data_field octets s (Content, e) = Ok (record s { content = e.value })
with_data_field octets s (SignatureInfo, e) = info_in e >>= λ i. Ok (record s { info = Some i })
with_data_field octets s (SignatureValue, e) =
    Ok (record s { signature = Some (e.value, signed_before octets s.name e.start) })

-- The fields of the packet's element in the order of their table, and what is in them.
abbrev pub data_fields : List ℕ → Item → Result DataSoFar PacketFault
data_fields octets e =
    gathered (with_data_field octets) packet_fault no_data_field
    (fields data_table (elements e.value_start e.value))

-- The packet that the fields make, where none is missing.
abbrev pub data_from : List ℕ → DataSoFar → Result Data PacketFault
data_from value s =
    ok_or s.name (Missing field.Name) >>= λ name.
    ok_or s.info (Missing field.SignatureInfo) >>= λ info.
    ok_or s.signature (Missing field.SignatureValue) >>= λ signature.
    Ok (record {
      name = name.1;
      content = s.content;
      content_type = s.meta.content_type;
      last = s.meta.last;
      signature_type = info.signature_type;
      locator = info.locator;
      signature = signature.0;
      signed = signature.1;
      value = value;
    })

-- The Data packet that octets are.
abbrev pub data_of : List ℕ → Result Data PacketFault
data_of octets =
    outer_of types.Data octets >>= λ e. data_fields octets e >>= data_from e.value

-- The packet has no octets but those that are signed, and the signature's element after them.
abbrev pub IsAllSigned : Data → Type 0
IsAllSigned d = d.value ≡ d.signed ++ element types.SignatureValue d.signature

-- The octets are the packet's element, whose value has what is signed, from the beginning of the
-- Name on, and right after that the SignatureValue. What stands around them was passed over.
pub record DataIsSpelled (octets : List ℕ) (d : Data) : Type 0 where
  pub before : List ℕ
  pub fields : List ℕ
  pub after : List ℕ
  pub packet : octets ≡ element types.Data d.value
  pub value : d.value ≡ before ++ (d.signed ++ (element types.SignatureValue d.signature ++ after))
  pub signed : d.signed ≡ element types.Name (encoding d.name) ++ fields

-- An Interest of this name asks for the packet of this digest: by its name, by its full name, or
-- where the Interest allows that by a prefix of the full name.
abbrev pub Satisfies : List Component → Bool → List ℕ → Data → Type 0
Satisfies name can_be_prefix digest d =
    (name ≡ d.name)
    ⊎ ((name ≡ full_name d.name digest)
    ⊎ (IsTrue can_be_prefix × IsPrefix name (full_name d.name digest)))

-- ---- the structs without where their octets lie in memory

-- The fields that were read so far.
abbrev pub data_so_far : DataFields → DataSoFar
data_so_far g =
    record {
      name = option_map (λ n. (n.0, n.1)) g.name;
      meta = meta g.meta;
      content = g.content.now;
      info = option_map info g.info;
      signature = option_map (λ s. (s.0.now, s.1.now)) g.signature;
    }

-- The name, if there is one, begins by this offset.
abbrev pub NameStartsBy : ℕ → DataFields → Type 0
NameStartsBy offset g = IfSome g.name (λ n. n.0 ≤ offset)

-- The Data packet that was read.
abbrev pub data_seen : DataView → Data
data_seen d =
    record {
      name = d.name;
      content = d.content.now;
      content_type = d.content_type;
      last = option_map component d.last;
      signature_type = d.signature_type;
      locator = d.locator;
      signature = d.signature.now;
      signed = d.signed.now;
      value = d.value.now;
    }
