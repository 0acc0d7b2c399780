-- What the contents of records and index packets are read as.
use Rattle.std.specs.Prelude.{ℕ, ◌==◌, nat_le, Bool, true, false, ◌&&◌, if◌then◌else◌, List, [], ◌∷◌, length, Option}
use Rattle.std.specs.Prelude.{Some, None, option_map, Result, Ok, Err}
use Rattle.std.specs.Option.{option_and_then}
use Rattle.ndn_tlv.specs.Types as types
use Rattle.ndn_tlv.specs.declared.order_table.FieldError.{FieldError}
use Rattle.ndn_tlv.specs.declared.order_table.Place.{Place}
use Rattle.ndn_tlv.specs.Listing.{Listing}
use Rattle.ndn_tlv.specs.Elements.{Item, elements}
use Rattle.ndn_tlv.specs.NumberField.{number_of}
use Rattle.ndn_tlv.specs.OrderTable.{once, repeated, fields}
use Rattle.ndn_name.specs.declared.name_fault.NameFault.{NameFault}
use Rattle.ndn_name.specs.Names.{Component, name_of}
use Rattle.repo_object.specs.declared.record_fields.RecordField.{RecordField}
use Rattle.repo_object.specs.declared.record_fields.RecordField.TheVariants as field
use Rattle.repo_object.specs.Limits.{segment_limit, number_limit}
use Rattle.repo_object.specs.RecordTypes as record_types
use Rattle.repo_object.specs.Objects.{is_object_name}
use Rattle.repo_object.specs.Publication.{RecordSays, is_indexed, count_listed}
use Rattle.repo_object.specs.Publication.RecordSays.{Lists, WithdrawsNumber}

-- The order table of records of every kind. The fields of one kind are critical in another, and so one table reads them
-- all.
abbrev pub record_table : List (Place RecordField)
record_table =
    once record_types.Withdraws field.Withdraws
    ∷ once types.Name field.Name
    ∷ once record_types.SegmentCount field.SegmentCount
    ∷ repeated record_types.Digest field.Digest
    ∷ repeated record_types.IndexDigest field.IndexDigest
    ∷ []

-- The order table of index packets.
abbrev pub index_table : List (Place RecordField)
index_table = repeated record_types.Digest field.Digest ∷ []

-- How many octets a digest has.
abbrev pub digest_len : ℕ
digest_len = 32

-- A value that was read, or None if it doesn't pass `test`.
abbrev pub that_passes : {A : Type 0} → (A → Bool) → Option A → Option A
that_passes test None = None
that_passes test (Some x) = if test x then Some x else None

-- A name that was read, or None for a fault.
abbrev pub read_name : Result (List Component) NameFault → Option (List Component)
read_name (Ok name) = Some name
read_name (Err fault) = None

-- The object's name that is the value of element `e`, or None.
abbrev pub object_name_in : Item → Option (List Component)
object_name_in e = that_passes is_object_name (read_name (name_of e.value_start e.value))

-- The number of segments, 0 to 20,000, that is the value of element `e`, or None.
abbrev pub segment_count_in : Item → Option ℕ
segment_count_in e = that_passes (λ n. nat_le n segment_limit) (number_of e.value)

-- The number of a publication, 1 to 65,535, that is the value of element `e`, or None.
abbrev pub number_in : Item → Option ℕ
number_in e = that_passes (λ n. nat_le 1 n && nat_le n number_limit) (number_of e.value)

-- What a field's digest is of: Some true for an index packet, Some false for a segment, and None if the field has no
-- digest.
abbrev pub lists_index : RecordField → Option Bool
lists_index field.Withdraws = None
lists_index field.Name = None
lists_index field.SegmentCount = None
lists_index field.Digest = Some false
lists_index field.IndexDigest = Some true

-- Whether the optional kind is there and is `indexes`.
abbrev pub is_kind : Bool → Option Bool → Bool
is_kind indexes None = false
is_kind true (Some kind) = kind
is_kind false (Some true) = false
is_kind false (Some false) = true

-- The digest of 32 octets that a field lists, or None: of an index packet if `indexes`, and else of a segment.
abbrev pub digest_in : Bool → RecordField × Item → Option (List ℕ)
digest_in indexes (field, e) =
    if is_kind indexes (lists_index field) && length e.value == digest_len then Some e.value else None

-- The digests that fields list, or None if one of them lists none of the kind `indexes`, or if a fault ends the fields.
unfoldable pub digests_among : Bool → List (RecordField × Item) → Option FieldError → Option (List (List ℕ))
digests_among indexes [] None = Some []
digests_among indexes [] (Some fault) = None
digests_among indexes (first ∷ fields) fault =
    option_and_then
    (λ digest. option_map (λ digests. digest ∷ digests) (digests_among indexes fields fault))
    (digest_in indexes first)

-- The digests that fields list, or None if they aren't exactly `count` digests of the kind `indexes`, or if a fault
-- ends them.
abbrev pub counted_digests : Bool → ℕ → Listing (RecordField × Item) FieldError → Option (List (List ℕ))
counted_digests indexes count fields =
    that_passes (λ digests. length digests == count) (digests_among indexes fields.items fields.fault)

-- The digests that the record of an object of `segments` segments lists in the fields after its SegmentCount, or None.
abbrev pub listed_digests : ℕ → List (RecordField × Item) → Option FieldError → Option (List (List ℕ))
listed_digests segments items fault =
    counted_digests (is_indexed segments) (count_listed segments) (record { items = items; fault = fault })

-- What a record says that begins with Withdraws, or None if it has no number of a publication, or if anything follows.
abbrev pub withdrawal_among : Item → List (RecordField × Item) → Option FieldError → Option RecordSays
withdrawal_among w [] None = option_map WithdrawsNumber (number_in w)
withdrawal_among w [] (Some fault) = None
withdrawal_among w (field ∷ fields) fault = None

-- What a record says that lists `digests` of an object of this name and of `segments` segments.
abbrev pub listed_record : List Component → ℕ → List (List ℕ) → RecordSays
listed_record name segments digests = Lists (record { name = name; segments = segments; digests = digests })

-- What a record says that begins with the Name `n` and the SegmentCount `c`: exactly the digests that such a record
-- lists must follow.
abbrev pub listing_among : Item → Item → List (RecordField × Item) → Option FieldError → Option RecordSays
listing_among n c digests fault =
    option_and_then (λ name.
    option_and_then (λ segments. option_map (listed_record name segments) (listed_digests segments digests fault))
    (segment_count_in c))
    (object_name_in n)

-- What a record says that begins with the Name `n`: a SegmentCount must follow.
abbrev pub counted_among : Item → List (RecordField × Item) → Option FieldError → Option RecordSays
counted_among n ((field.SegmentCount, c) ∷ digests) fault = listing_among n c digests fault
counted_among n _ fault = None

-- What a record with these fields says, or None if they are no record's.
abbrev pub stated_among : List (RecordField × Item) → Option FieldError → Option RecordSays
stated_among ((field.Withdraws, w) ∷ fields) fault = withdrawal_among w fields fault
stated_among ((field.Name, n) ∷ fields) fault = counted_among n fields fault
stated_among _ fault = None

-- The fields of a content by the order table of records.
abbrev pub record_fields : List ℕ → Listing (RecordField × Item) FieldError
record_fields content = fields record_table (elements 0 content)

-- What the content of a record says, or None where it is no record's.
abbrev pub record_of : List ℕ → Option RecordSays
record_of content = stated_among (record_fields content).items (record_fields content).fault

-- The fields of a content by the order table of index packets.
abbrev pub index_fields : List ℕ → Listing (RecordField × Item) FieldError
index_fields content = fields index_table (elements 0 content)

-- The digests of segments that the index packet of this content lists, or None if it doesn't list exactly `count`.
abbrev pub index_of : List ℕ → ℕ → Option (List (List ℕ))
index_of content count = counted_digests false count (index_fields content)
