-- The packets of a publication: its record, its index packets, and then the segments of its object.
use Rattle.std.specs.Prelude.{ℕ, ◌+◌, ◌-◌, ◌*◌, ◌==◌, Bool, not, if◌then◌else◌, List, [], ◌∷◌, ◌++◌, length, map, take}
use Rattle.std.specs.Prelude.{drop, Option, Some, None, slice_get}
use Rattle.std.specs.List.{flat_map}
use Rattle.sha2.specs.Sha256.{sha256}
use Rattle.sorted_lists.specs.Range.{numbers_from}
use Rattle.ndn_tlv.specs.Types as types
use Rattle.ndn_tlv.specs.Spelling.{element}
use Rattle.ndn_tlv.specs.NumberField.{number_field}
use Rattle.ndn_name.specs.Names.{Component, encoding}
use Rattle.ndn_data.specs.WrittenData.{written_data}
use Rattle.repo_plan.specs.declared.shape.Shape.{Shape}
use Rattle.repo_plan.specs.Parts.{most_listed, index_packets, shape_of_segments}
use Rattle.repo_object.specs.RecordTypes as record_types
use Rattle.repo_object.specs.Objects.{NamedContents, Post, Publisher, key_name, record_name, segment_name}
use Rattle.repo_object.specs.Objects.Post.{Offers, Withdraws}

-- ---- what is written in records and index packets

-- What the record of an object lists: the object's name, how many segments it has, and digests in order, of the index
-- packets where there are some, and else of the segments' packets.
pub record Listed : Type 0 where
  pub name : List Component
  pub segments : ℕ
  pub digests : List (List ℕ)

-- What a record says: it lists the parts of an object, or withdraws the publication of a number.
pub data RecordSays : Type 0 where
  Lists : Listed → RecordSays
  WithdrawsNumber : ℕ → RecordSays

-- Whether an object of `segments` segments has index packets.
abbrev pub is_indexed : ℕ → Bool
is_indexed segments = not (index_packets segments == 0)

-- How many digests the record of an object of `segments` segments lists: of its index packets, or else of its segments.
abbrev pub count_listed : ℕ → ℕ
count_listed segments = if is_indexed segments then index_packets segments else segments

-- The type of the elements in which the record of an object of `segments` segments lists its digests.
abbrev pub digest_type : ℕ → ℕ
digest_type segments = if is_indexed segments then record_types.IndexDigest else record_types.Digest

-- The part counts that a record says of its publication. A withdrawal has no part after its record.
abbrev pub shape_stated : RecordSays → Shape
shape_stated (Lists l) = shape_of_segments l.segments
shape_stated (WithdrawsNumber seq) = shape_of_segments 0

-- The content of a record: Name, SegmentCount and the digests, or Withdraws.
abbrev pub record_content : RecordSays → List ℕ
record_content (Lists l) =
    element types.Name (encoding l.name)
    ++ element record_types.SegmentCount (number_field l.segments)
    ++ flat_map (element (digest_type l.segments)) l.digests
record_content (WithdrawsNumber seq) = element record_types.Withdraws (number_field seq)

-- The content of an index packet: a Digest for each segment that it lists.
abbrev pub index_content : List (List ℕ) → List ℕ
index_content digests = flat_map (element record_types.Digest) digests

-- ---- packets that are numbered under a name

-- Packet `i` under the name `name`. It says that the last number is `last`, and is signed with `key`, whose name is
-- `key_name`.
abbrev pub segment_packet : List Component → List ℕ → List Component → ℕ → ℕ → List ℕ → List ℕ
segment_packet key_name key name last i content =
    written_data (segment_name name i) (Some last) content key_name key

-- The packets under the name `name` that have these contents, numbered from `i` on.
unfoldable pub segment_packets_from : List Component → List ℕ → List Component → ℕ → ℕ → List (List ℕ)
    → List (List ℕ)
segment_packets_from key_name key name last i [] = []
segment_packets_from key_name key name last i (content ∷ contents) =
    segment_packet key_name key name last i content
    ∷ segment_packets_from key_name key name last (i + 1) contents

-- The packets under the name `name` that have the contents `contents`, numbered from 0 on.
abbrev pub packets_under : List Component → List ℕ → List Component → List (List ℕ) → List (List ℕ)
packets_under key_name key name contents =
    segment_packets_from key_name key name (length contents - 1) 0 contents

-- ---- publications

-- The packets of the segments of an object, as the publisher signs them.
abbrev pub published_segments : Publisher → NamedContents → List (List ℕ)
published_segments publisher object =
    packets_under (key_name publisher.node) publisher.key object.name object.contents

-- The elements of `all` that index packet `k`, counted from 0, lists: 200 from place `200 k` on, or fewer where `all`
-- ends before.
abbrev pub listed_by : {A : Type 0} → List A → ℕ → List A
listed_by all k = take most_listed (drop (k * most_listed) all)

-- The contents of the index packets of an object whose segments have the packets `segments`.
abbrev pub index_contents : List (List ℕ) → List (List ℕ)
index_contents segments =
    map (λ k. index_content (map sha256 (listed_by segments k))) (numbers_from 0 (index_packets (length segments)))

-- The index packets of an object that is published under number `seq`. They are numbered under the record's name.
abbrev pub published_indexes : Publisher → ℕ → NamedContents → List (List ℕ)
published_indexes publisher seq object =
    packets_under (key_name publisher.node) publisher.key (record_name publisher.node publisher.group seq)
    (index_contents (published_segments publisher object))

-- The packets that the object's record lists: the index packets, or else those of the segments.
abbrev pub listed_packets : Publisher → ℕ → NamedContents → List (List ℕ)
listed_packets publisher seq object =
    if is_indexed (length object.contents) then published_indexes publisher seq object
    else published_segments publisher object

-- What the record lists of an object that is published under number `seq`.
abbrev pub published_listing : Publisher → ℕ → NamedContents → Listed
published_listing publisher seq object = record {
  name = object.name;
  segments = length object.contents;
  digests = map sha256 (listed_packets publisher seq object);
}

-- What the record of a publication says.
abbrev pub published_record : Publisher → ℕ → Post → RecordSays
published_record publisher seq (Offers object) = Lists (published_listing publisher seq object)
published_record publisher seq (Withdraws withdrawn) = WithdrawsNumber withdrawn

-- The packet of the record that says `says`, of the publication of number `seq`.
abbrev pub record_packet : Publisher → ℕ → RecordSays → List ℕ
record_packet publisher seq says =
    written_data (record_name publisher.node publisher.group seq) None (record_content says)
    (key_name publisher.node) publisher.key

-- The packets of the parts after the record.
abbrev pub packets_after : Publisher → ℕ → Post → List (List ℕ)
packets_after publisher seq (Offers object) =
    published_indexes publisher seq object ++ published_segments publisher object
packets_after publisher seq (Withdraws withdrawn) = []

-- The packets of a publication: the record, then the index packets, then the segments, each kind in order.
abbrev pub packets : Publisher → ℕ → Post → List (List ℕ)
packets publisher seq post =
    record_packet publisher seq (published_record publisher seq post) ∷ packets_after publisher seq post

-- The packet of part `x`, counted from 0: part 0 is the record, and the parts after it follow.
abbrev pub packet_at : Publisher → ℕ → Post → ℕ → Option (List ℕ)
packet_at publisher seq post x = slice_get (packets publisher seq post) x
