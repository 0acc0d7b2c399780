-- What a Data packet says of its content (NDN Packet Format 0.3, "Data Packet").
use Rattle.std.specs.Prelude.{ℕ, List, [], ◌∷◌, Option, Some, None, option_map, Result, Ok, Err}
use Rattle.ndn_tlv.specs.Types as types
use Rattle.ndn_tlv.specs.Listing.{gathered, ◌>>=◌}
use Rattle.ndn_tlv.specs.Elements.{Item, elements}
use Rattle.ndn_tlv.specs.OrderTable.{once, fields}
use Rattle.ndn_tlv.specs.declared.order_table.Place.{Place}
use Rattle.ndn_name.specs.declared.fault.Field.TheVariants as field
use Rattle.ndn_name.specs.declared.fault.PacketFault.{PacketFault}
use Rattle.ndn_name.specs.declared.fault.PacketFault.TheVariants.{BadField}
use Rattle.ndn_name.specs.Names.{Component, component}
use Rattle.ndn_name.specs.Faults.{packet_fault}
use Rattle.ndn_packet.specs.Contents.{number_in, name_in}
use Rattle.ndn_data.specs.declared.meta_info.MetaField.{MetaField}
use Rattle.ndn_data.specs.declared.meta_info.MetaField.TheVariants.{ContentType, FreshnessPeriod, FinalBlockId}
use Rattle.ndn_data.specs.declared.meta_info.MetaInfo as declared_meta

-- The places of the fields of a MetaInfo.
abbrev pub meta_info_table : List (Place MetaField)
meta_info_table =
    once types.ContentType ContentType
    ∷ once types.FreshnessPeriod FreshnessPeriod
    ∷ once types.FinalBlockId FinalBlockId
    ∷ []

-- The content type of a plain content, under the name that the standard gives it.
abbrev pub Blob : ℕ
Blob = 0

-- The content's type, and the last component of the name of the object's last segment. A packet
-- that says neither has a plain content, and names no last segment.
pub record Meta : Type 0 where
  pub content_type : ℕ
  pub last : Option Component

-- What holds where nothing is said: the content is plain, and no last segment is named.
abbrev pub plain : Meta
plain = record { content_type = Blob; last = None }

-- The one component of a name.
abbrev pub only_component : PacketFault → List Component → Result Component PacketFault
only_component bad [] = Err bad
only_component bad (c ∷ []) = Ok c
only_component bad (c ∷ d ∷ cs) = Err bad

-- The component that a FinalBlockId holds. It is read to its end as a name is, before it counts
-- that there is one component.
abbrev pub final_block_in : Item → Result Component PacketFault
final_block_in e =
    name_in (BadField field.FinalBlockId e.start) e
    >>= only_component (BadField field.FinalBlockId e.start)

-- A freshness period must be a number, and says nothing here.
abbrev pub with_meta_field : Meta → MetaField × Item → Result Meta PacketFault
with_meta_field m (ContentType, e) =
    number_in field.ContentType e >>= λ n. Ok (record m { content_type = n })
with_meta_field m (FreshnessPeriod, e) = number_in field.FreshnessPeriod e >>= λ n. Ok m
with_meta_field m (FinalBlockId, e) = final_block_in e >>= λ c. Ok (record m { last = Some c })

-- The meta info that an element is.
abbrev pub meta_in : Item → Result Meta PacketFault
meta_in e =
    gathered with_meta_field packet_fault plain (fields meta_info_table (elements e.value_start e.value))

-- A meta info without where its octets lie in memory.
abbrev pub meta : declared_meta.MetaInfo → Meta
meta m = record { content_type = m.content_type; last = option_map component m.last }
