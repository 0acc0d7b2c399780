-- What records and index packets say, in the words of their formats.
use Rattle.std.specs.Prelude.{◌≡◌, ◌<◌, ◌≤◌, ℕ, Bool, false, IsTrue, List, [], ◌∷◌, length, map, Some, None, Ok}
use Rattle.std.specs.Prelude.{if◌then◌else◌}
use Rattle.std.specs.List.{All}
use Rattle.ndn_tlv.specs.Elements.{Item}
use Rattle.ndn_tlv.specs.NumberField.{number_of}
use Rattle.ndn_name.specs.Names.{IsName, name_of}
use Rattle.repo_object.specs.declared.record_fields.RecordField.{RecordField}
use Rattle.repo_object.specs.declared.record_fields.RecordField.TheVariants as field
use Rattle.repo_object.specs.Limits.{segment_limit, number_limit}
use Rattle.repo_object.specs.Objects.{is_object_name}
use Rattle.repo_object.specs.Publication.{Listed, RecordSays, is_indexed, count_listed}
use Rattle.repo_object.specs.Publication.RecordSays.{Lists, WithdrawsNumber}
use Rattle.repo_object.specs.Records.{digest_len, record_fields, index_fields}

-- A digest has 32 octets.
abbrev pub IsDigest : List ℕ → Type 0
IsDigest digest = length digest ≡ digest_len

-- The limits of a listing: its name may be an object's, `segments` is at most 20,000, and it has
-- `count_listed l.segments` digests of 32 octets each.
pub record IsListing (l : Listed) : Type 0 where
  pub name : IsName l.name
  pub named : IsTrue (is_object_name l.name)
  pub few : l.segments ≤ segment_limit
  pub count : length l.digests ≡ count_listed l.segments
  pub digests : All IsDigest l.digests

-- The limits of what a record says: those of its listing, or a withdrawn number from 1 to 65,535.
abbrev pub IsStated : RecordSays → Type 0
IsStated (Lists l) = IsListing l
IsStated (WithdrawsNumber seq) = (0 < seq) × (seq ≤ number_limit)

-- The field that lists a digest: of an index packet if `indexes`, and else of a segment.
abbrev pub digest_field : Bool → RecordField
digest_field indexes = if indexes then field.IndexDigest else field.Digest

-- The elements `items` as fields that list digests: of index packets if `indexes`, and else of segments.
abbrev pub as_digests : Bool → List Item → List (RecordField × Item)
as_digests indexes items = map (λ d. (digest_field indexes, d)) items

-- The values of the elements `items`.
abbrev pub values : List Item → List (List ℕ)
values items = map (λ d. d.value) items

-- `content` has the fields of a record that lists `l`: a Name, a SegmentCount, then IndexDigests if there are index
-- packets, and else Digests.
pub record HasListing (content : List ℕ) (l : Listed) : Type 0 where
  pub name : Item
  pub count : Item
  pub digests : List Item
  pub fields : record_fields content ≡ record {
    items = (field.Name, name) ∷ (field.SegmentCount, count) ∷ as_digests (is_indexed l.segments) digests;
    fault = None;
  }
  pub names : name_of name.value_start name.value ≡ Ok l.name
  pub named : IsTrue (is_object_name l.name)
  pub counts : number_of count.value ≡ Some l.segments
  pub few : l.segments ≤ segment_limit
  pub many : length l.digests ≡ count_listed l.segments
  pub values : values digests ≡ l.digests
  pub are : All IsDigest l.digests

-- `content` has the field of a record that withdraws the publication of number `seq`: Withdraws alone.
pub record HasWithdrawal (content : List ℕ) (seq : ℕ) : Type 0 where
  pub number : Item
  pub fields : record_fields content ≡ record { items = (field.Withdraws, number) ∷ []; fault = None }
  pub counts : number_of number.value ≡ Some seq
  pub some : 0 < seq
  pub few : seq ≤ number_limit

-- `content` has the fields of a record that lists `l`, or of one that withdraws the publication of number `seq`.
abbrev pub HasStated : List ℕ → RecordSays → Type 0
HasStated content (Lists l) = HasListing content l
HasStated content (WithdrawsNumber seq) = HasWithdrawal content seq

-- `content` has the fields of an index packet that lists `digests`, which are of segments: Digests alone.
pub record HasIndex (content : List ℕ) (digests : List (List ℕ)) : Type 0 where
  pub items : List Item
  pub fields : index_fields content ≡ record { items = as_digests false items; fault = None }
  pub values : values items ≡ digests
  pub are : All IsDigest digests
