-- The order tables of records of each kind alone.
use Rattle.std.specs.Prelude.{Bool, true, false, List, [], ◌∷◌}
use Rattle.ndn_tlv.specs.Types as types
use Rattle.ndn_tlv.specs.declared.order_table.Place.{Place}
use Rattle.ndn_tlv.specs.OrderTable.{once, repeated}
use Rattle.repo_object.specs.declared.record_fields.RecordField.{RecordField}
use Rattle.repo_object.specs.declared.record_fields.RecordField.TheVariants as field
use Rattle.repo_object.specs.RecordTypes as record_types

-- What a record lists or withdraws: segments, index packets, or a publication.
pub data Kind : Type 0 where
  OfSegments : Kind
  OfIndexes : Kind
  OfWithdrawals : Kind

-- The order table of records of one kind.
abbrev pub kind_table : Kind → List (Place RecordField)
kind_table OfSegments =
    once types.Name field.Name
    ∷ once record_types.SegmentCount field.SegmentCount
    ∷ repeated record_types.Digest field.Digest
    ∷ []
kind_table OfIndexes =
    once types.Name field.Name
    ∷ once record_types.SegmentCount field.SegmentCount
    ∷ repeated record_types.IndexDigest field.IndexDigest
    ∷ []
kind_table OfWithdrawals = once record_types.Withdraws field.Withdraws ∷ []

-- Whether a field is one that records of this kind have.
abbrev pub is_of_kind : Kind → RecordField → Bool
is_of_kind OfSegments field.Withdraws = false
is_of_kind OfSegments field.Name = true
is_of_kind OfSegments field.SegmentCount = true
is_of_kind OfSegments field.Digest = true
is_of_kind OfSegments field.IndexDigest = false
is_of_kind OfIndexes field.Withdraws = false
is_of_kind OfIndexes field.Name = true
is_of_kind OfIndexes field.SegmentCount = true
is_of_kind OfIndexes field.Digest = false
is_of_kind OfIndexes field.IndexDigest = true
is_of_kind OfWithdrawals field.Withdraws = true
is_of_kind OfWithdrawals field.Name = false
is_of_kind OfWithdrawals field.SegmentCount = false
is_of_kind OfWithdrawals field.Digest = false
is_of_kind OfWithdrawals field.IndexDigest = false
