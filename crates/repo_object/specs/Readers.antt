-- What readers of records and index packets have still to read.
use Rattle.std.specs.Prelude.{◌≡◌, ◌<◌, ℕ, ◌+◌, ◌*◌, IsSome, List, [], length, take, drop, slice_get, Option, Some}
use Rattle.std.specs.Prelude.{option_map, unwrap_or}
use Rattle.ndn_tlv.specs.declared.order_table.FieldError.{FieldError}
use Rattle.ndn_tlv.specs.Listing.{Listing, ◌then◌}
use Rattle.ndn_tlv.specs.Elements.{Item}
use Rattle.repo_object.specs.declared.record_fields.RecordField.{RecordField}
use Rattle.repo_object.specs.declared.record_fields.DigestReader.{DigestReader}
use Rattle.repo_object.specs.declared.record_fields.RecordReader.{RecordReader}
use Rattle.repo_object.specs.declared.record_fields.RecordReader.TheVariants as reader
use Rattle.repo_object.specs.Publication.{RecordSays}
use Rattle.repo_object.specs.Publication.RecordSays.{WithdrawsNumber}
use Rattle.repo_object.specs.Records.{digest_len, counted_digests, listed_record, record_fields}

-- The digests that `reader` has still to read, or None if its fields aren't exactly `reader.left` digests of its kind.
abbrev pub remaining_digests : DigestReader → Option (List (List ℕ))
remaining_digests reader = counted_digests reader.indexes reader.left reader.fields

-- The digests that `reader` has still to read. There are none if its fields aren't exactly `reader.left` digests of its
-- kind.
abbrev pub digests_left : DigestReader → List (List ℕ)
digests_left reader = unwrap_or (remaining_digests reader) []

-- What a record says that was read up to its digests, or None if the digests aren't all there.
abbrev pub stated_to_come : RecordReader → Option RecordSays
stated_to_come (reader.Withdraws withdrawn) = Some (WithdrawsNumber withdrawn)
stated_to_come (reader.Lists name segments digests row) =
    option_map (listed_record name segments) (remaining_digests digests)

-- How many octets the element of a digest has: a type, a length, and the digest.
abbrev pub digest_element_len : ℕ
digest_element_len = 34

-- If `octets` are just as many as the elements of `reader.left` digests have, digest `i` of `reader` stands in them
-- from place `34 i + 2` on.
abbrev pub IsRow : List ℕ → DigestReader → Type 0
IsRow octets reader =
    length octets ≡ digest_element_len * reader.left → (i : ℕ) → i < reader.left
    → slice_get (digests_left reader) i ≡ Some (take digest_len (drop (digest_element_len * i + 2) octets))

-- The digests of `reader` are all there, and they stand in `octets` as `IsRow` says.
pub record DigestsAreRead (reader : DigestReader) (octets : List ℕ) : Type 0 where
  pub all : IsSome (remaining_digests reader)
  pub row : IsRow octets reader

-- If the digests of a record that was read up to them are all there, they stand in its octets `row` as `IsRow` says.
abbrev pub HasItsRow : RecordReader → Type 0
HasItsRow (reader.Withdraws withdrawn) = Unit
HasItsRow (reader.Lists name segments digests row) = IsSome (remaining_digests digests) → IsRow row.now digests

-- The fields of `content` by the order table of records are `first` and then `others`.
abbrev pub BeginsWith : List ℕ → RecordField × Item → Listing (RecordField × Item) FieldError → Type 0
BeginsWith content first others = record_fields content ≡ (first then others)
