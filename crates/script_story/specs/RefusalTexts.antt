-- How a report writes why octets were refused: the refusal's word, with the offset, type, field, label or number that
-- it has.
use Rattle.std.specs.Prelude.{ℕ, List, [], ◌++◌, codes}
use Rattle.std.specs.Fmt.{decimal}
use Rattle.ndn_tlv.specs.declared.tlv_fault.TlvFault.{TlvFault}
use Rattle.ndn_tlv.specs.declared.tlv_fault.TlvFault.TheVariants as tlv
use Rattle.ndn_name.specs.declared.fault.Field.{Field}
use Rattle.ndn_name.specs.declared.fault.Field.TheVariants as field
use Rattle.ndn_name.specs.declared.fault.PacketFault.{PacketFault}
use Rattle.ndn_name.specs.declared.fault.PacketFault.TheVariants as packet
use Rattle.svs_vector.specs.declared.vector_fault.VectorFault.{VectorFault}
use Rattle.svs_vector.specs.declared.vector_fault.VectorFault.TheVariants as vector
use Rattle.svs_sync.specs.declared.sync_refusal.SyncRefusal.{SyncRefusal}
use Rattle.svs_sync.specs.declared.sync_refusal.SyncRefusal.TheVariants as sync
use Rattle.repo_object.specs.declared.part_refusal.PartRefusal.{PartRefusal}
use Rattle.repo_object.specs.declared.part_refusal.PartRefusal.TheVariants as part
use Rattle.repo_member.specs.declared.refusals.HearRefusal.{HearRefusal}
use Rattle.repo_member.specs.declared.refusals.HearRefusal.TheVariants as hear
use Rattle.script_report.specs.Labels.{label_at}

-- A fault of an element.
abbrev pub tlv_fault_text : TlvFault → List ℕ
tlv_fault_text (tlv.Truncated at) = codes "Truncated " ++ decimal at
tlv_fault_text (tlv.NotShortest at) = codes "NotShortest " ++ decimal at
tlv_fault_text (tlv.ZeroType at) = codes "ZeroType " ++ decimal at
tlv_fault_text (tlv.TypeTooLarge at) = codes "TypeTooLarge " ++ decimal at

-- The name of a field.
abbrev pub field_word : Field → List ℕ
field_word field.Name = codes "Name"
field_word field.CanBePrefix = codes "CanBePrefix"
field_word field.MustBeFresh = codes "MustBeFresh"
field_word field.Nonce = codes "Nonce"
field_word field.InterestLifetime = codes "InterestLifetime"
field_word field.HopLimit = codes "HopLimit"
field_word field.ParametersDigest = codes "ParametersDigest"
field_word field.MetaInfo = codes "MetaInfo"
field_word field.ContentType = codes "ContentType"
field_word field.FreshnessPeriod = codes "FreshnessPeriod"
field_word field.FinalBlockId = codes "FinalBlockId"
field_word field.SignatureInfo = codes "SignatureInfo"
field_word field.SignatureType = codes "SignatureType"
field_word field.KeyLocator = codes "KeyLocator"
field_word field.SignatureValue = codes "SignatureValue"

-- A fault of a packet.
abbrev pub packet_fault_text : PacketFault → List ℕ
packet_fault_text (packet.Tlv fault) = tlv_fault_text fault
packet_fault_text packet.PacketTooLong = codes "PacketTooLong"
packet_fault_text (packet.WrongType typ) = codes "WrongType " ++ decimal typ
packet_fault_text (packet.TrailingOctets at) = codes "TrailingOctets " ++ decimal at
packet_fault_text (packet.Critical typ at) = codes "Critical " ++ (decimal typ ++ (codes " " ++ decimal at))
packet_fault_text (packet.Missing named) = codes "Missing " ++ field_word named
packet_fault_text (packet.BadField named at) = codes "BadField " ++ (field_word named ++ (codes " " ++ decimal at))

-- Why a vector is refused. A member is given by its label. No octets are refused when memory runs out, and no report
-- has a text for it.
abbrev pub vector_fault_text : List (List ℕ) → VectorFault → List ℕ
vector_fault_text labels (vector.BadVector at) = codes "BadVector " ++ decimal at
vector_fault_text labels (vector.NumberTooLarge m number) =
    codes "NumberTooLarge " ++ (label_at labels m ++ (codes " " ++ decimal number))
vector_fault_text labels vector.NoMemory = []

-- Why a sync Interest is refused.
abbrev pub sync_refusal_text : List (List ℕ) → SyncRefusal → List ℕ
sync_refusal_text labels (sync.Packet fault) = packet_fault_text fault
sync_refusal_text labels sync.WrongGroup = codes "WrongGroup"
sync_refusal_text labels sync.Unsigned = codes "Unsigned"
sync_refusal_text labels sync.ParamsDigest = codes "ParamsDigest"
sync_refusal_text labels sync.UnknownKey = codes "UnknownKey"
sync_refusal_text labels sync.BadSignature = codes "BadSignature"
sync_refusal_text labels (sync.Vector fault) = vector_fault_text labels fault
sync_refusal_text labels sync.NoMemory = []

-- Why octets are refused as a sync Interest.
abbrev pub hear_refusal_text : List (List ℕ) → HearRefusal → List ℕ
hear_refusal_text labels (hear.Sync refusal) = sync_refusal_text labels refusal
hear_refusal_text labels (hear.OwnNumberAhead own printed) = codes "OwnNumberAhead"
hear_refusal_text labels hear.NoMemory = []

-- Why a packet is refused for a part.
abbrev pub part_refusal_text : PartRefusal → List ℕ
part_refusal_text (part.Packet fault) = packet_fault_text fault
part_refusal_text part.UnsignedOctets = codes "UnsignedOctets"
part_refusal_text part.OtherName = codes "OtherName"
part_refusal_text part.OtherDigest = codes "OtherDigest"
part_refusal_text part.UnknownKey = codes "UnknownKey"
part_refusal_text part.BadSignature = codes "BadSignature"
part_refusal_text part.BadRecord = codes "BadRecord"
