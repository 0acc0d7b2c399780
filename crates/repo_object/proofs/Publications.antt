-- The packets of a publication fit, are read back, and pass for their wants.
use Rattle.std.proofs.Common.{◌≡◌, ℕ, zero, suc, ◌+◌, ◌-◌, ◌*◌, ◌^◌, ◌<◌, ◌≤◌, Bool, true, false, cond, List, [], ◌∷◌}
use Rattle.std.proofs.Common.{◌++◌}
use Rattle.std.proofs.Common.{length, length-append, map, drop, min, Option, Some, None, option_map, slice_get, Ok}
use Rattle.std.proofs.Common.{IsOk, refl}
use Rattle.std.proofs.Common.{sym, ap, subst, ◌∙◌, inl, inr, arith}
use Rattle.std.specs.Prelude.{IsSome, IfSome}
use Rattle.std.specs.List.{All}
use Rattle.std.specs.Option.{option_and_then}
use Rattle.std.proofs.lemmas.Bool.{cases_lt, lt-ltb}
use Rattle.std.proofs.lemmas.List.{length-map, length-take, length-drop}
use Rattle.std.proofs.lemmas.List.Elements.{All-nil, All-cons, All-head, All-tail, All-map, All-append}
use Rattle.std.proofs.lemmas.Option.{slice_get-map, slice_get_within, same_Some}
use Rattle.sha2.specs.Sha256.{sha256}
use Rattle.sha2.proofs.Facts256.{length-sha256}
use Rattle.sorted_lists.specs.Range.{numbers_from}
use Rattle.ndn_name.specs.Names.{Component, IsName, encoding}
use Rattle.ndn_data.specs.Data.{Data, data_of}
use Rattle.ndn_data.specs.WrittenData.{read_back}
use Rattle.ndn_data.proofs.ReadBackLemmas.{data_again}
use Rattle.repo_plan.specs.declared.part.Part.{Part}
use Rattle.repo_plan.specs.Parts.{index_packets, last_part}
use Rattle.repo_object.specs.Objects.{NamedContents, Post, IsObject, IsPost, Publisher, IsPublisher, key_name}
use Rattle.repo_object.specs.Objects.{record_name, segment_name, shape_in}
use Rattle.repo_object.specs.Objects.Post.{Offers, Withdraws}
use Rattle.repo_object.specs.Publication.{is_indexed, record_content, index_content}
use Rattle.repo_object.specs.Publication.{index_contents, segment_packet, segment_packets_from, packets_under}
use Rattle.repo_object.specs.Publication.{published_segments, listed_by, published_indexes, listed_packets}
use Rattle.repo_object.specs.Publication.{published_listing, published_record, record_packet, packets_after, packets}
use Rattle.repo_object.specs.Publication.{packet_at, shape_stated}
use Rattle.repo_object.specs.Records.{record_of, index_of}
use Rattle.repo_object.specs.Formats.{IsDigest, IsListing, IsStated}
use Rattle.repo_object.specs.Wants.{want_record, want_index, want_segment, listed_in}
use Rattle.repo_object.specs.Verdict.{may_say, part_verdict, content_within, content_in, stated_in, index_in}
use Rattle.repo_object.proofs.Sizes.{named_short}
use Rattle.repo_object.proofs.NameLemmas.{IsName-key}
use Rattle.repo_object.proofs.Places.{all_at, slice_get-prefix, slice_get-after}
use Rattle.repo_object.proofs.IndexLemmas.{index_few, indexed_some}
use Rattle.repo_object.proofs.PacketSizes.{key_name-size, record_name-size, segment-size, listing_packet-size}
use Rattle.repo_object.proofs.PacketSizes.{withdrawal_packet-size, index-size}
use Rattle.repo_object.proofs.Written.{written_says, written_index}
use Rattle.repo_object.proofs.WantLemmas.{record_valid, segment_valid}
use Rattle.repo_object.proofs.Packing.{segment_from, listed-length, index-count, index_at, segment-count}
use Rattle.repo_object.proofs.Packing.{indexes-length, index_packet_at, segment_packet_at}
use Rattle.repo_object.proofs.Passing.{passing_is_ok}

abbrev Short : List ℕ → Type 0
Short octets = length octets ≤ 8800

abbrev Small : List ℕ → Type 0
Small content = length content ≤ 8000

-- ---- packets that are numbered under a name

segments_fit : (keyed : List Component) (key : List ℕ) (name : List Component) (last i : ℕ) (contents : List (List ℕ))
    → length (encoding keyed) ≤ 205 → length (encoding name) ≤ 404
    → last < 2 ^ 16 → i + length contents ≤ 2 ^ 16 → All Small contents
    → All Short (segment_packets_from keyed key name last i contents)
unfolding segment_packets_from
segments_fit keyed key name last i [] short_key short low_last low small = All-nil Short
segments_fit keyed key name last i (content ∷ contents) short_key short low_last low small =
    All-cons Short (segment_packet keyed key name last i content)
    (segment_packets_from keyed key name last (i + 1) contents)
    (segment-size keyed key name last i content short_key short low_last (omega (arith, low))
    (All-head Small content contents small))
    (segments_fit keyed key name last (i + 1) contents short_key short low_last (omega (arith, low))
    (All-tail Small content contents small))

-- what the packet of number `k` is read as
abbrev pub numbered_data : Publisher → List Component → ℕ → ℕ → List ℕ → Data
numbered_data publisher name last k content =
    read_back (segment_name name k) (Some last) content (key_name publisher.node) publisher.key

pub record Numbered (publisher : Publisher) (name : List Component) (contents : List (List ℕ)) (k : ℕ)
    (octets : List ℕ) : Type 0 where
  pub content : List ℕ
  pub place : slice_get contents k ≡ Some content
  pub named : IsName (segment_name name k)
  pub read : data_of octets ≡ Ok (numbered_data publisher name (length contents - 1) k content)

module _ (publisher : Publisher) (is_publisher : IsPublisher publisher) where
  abbrev keyed : List Component
  keyed = key_name publisher.node

  keyed-short : length (encoding keyed) ≤ 205
  keyed-short = key_name-size publisher.node is_publisher.node.1

  record_name-short : (seq : ℕ) → seq < 2 ^ 16
      → length (encoding (record_name publisher.node publisher.group seq)) ≤ 404
  record_name-short seq low =
      record_name-size publisher.node publisher.group seq is_publisher.node.1 is_publisher.group.1 low

  pub record_named : (seq : ℕ) → seq < 2 ^ 16 → IsName (record_name publisher.node publisher.group seq)
  record_named seq low =
      record_valid publisher.node publisher.group seq is_publisher.node.0 is_publisher.group.0 low

  numbered_again : (name : List Component) (contents : List (List ℕ)) (k : ℕ) (octets : List ℕ) → IsName name
      → length (encoding name) ≤ 404 → All Small contents → length contents ≤ 2 ^ 16
      → slice_get (packets_under keyed publisher.key name contents) k ≡ Some octets
      → Numbered publisher name contents k octets
  numbered_again name contents k octets valid short small few at =
      let last = length contents - 1 in
      let s = segment_from keyed publisher.key name last 0 contents k octets at in
      let from_first : k ≡ 0 + k = omega arith in
      let is : segment_packet keyed publisher.key name last k s.0 ≡ octets =
      ap (λ (n : ℕ). segment_packet keyed publisher.key name last n s.0) from_first ∙ s.2 in
      let in_range = slice_get_within contents k s.0 s.1 in
      let low : k < 2 ^ 16 = omega (arith, in_range, few) in
      let low_last : last < 2 ^ 16 = omega (arith, few) in
      let named = segment_valid name k valid low in
      record {
        content = s.0;
        place = s.1;
        named = named;
        read =
            ap data_of (sym is)
            ∙ data_again (segment_name name k) keyed (Some last) s.0 publisher.key named
            (IsName-key publisher.node is_publisher.node.0)
            (segment-size keyed publisher.key name last k s.0 keyed-short short low_last low
            (all_at Small contents k s.0 small s.1));
      }

  -- ---- objects

  module _ (object : NamedContents) (is_object : IsObject object) where
    abbrev segments : List (List ℕ)
    segments = published_segments publisher object

    abbrev count : ℕ
    count = index_packets (length object.contents)

    count_few : count ≤ 100
    count_few = index_few (length object.contents) is_object.few

    contents_small : All Small object.contents
    contents_small = λ i d low. (is_object.contents i d low).1

    listed_digests : (k : ℕ) → All IsDigest (map sha256 (listed_by segments k))
    listed_digests k = All-map IsDigest sha256 (listed_by segments k) (λ i d h. length-sha256 _)

    listed_few : (k : ℕ) → length (map sha256 (listed_by segments k)) ≤ 200
    listed_few k = omega (arith, length-map (listed_by segments k) sha256, listed-length segments k)

    indexes_small : All Small (index_contents segments)
    indexes_small =
        All-map Small (λ (k : ℕ). index_content (map sha256 (listed_by segments k)))
        (numbers_from 0 (index_packets (length segments)))
        (λ i d h. index-size (map sha256 (listed_by segments _)) (listed_digests _) (listed_few _))

    indexes_count : length (index_contents segments) ≡ count
    indexes_count = index-count segments ∙ ap index_packets (segment-count publisher 0 object)

    listing_within : (seq : ℕ) → IsListing (published_listing publisher seq object)
    listing_within seq = record {
      name = is_object.name;
      named = is_object.named;
      few = is_object.few;
      count =
          length-map (listed_packets publisher seq object) sha256
          ∙ by_kind (is_indexed (length object.contents));
      digests = All-map IsDigest sha256 (listed_packets publisher seq object) (λ k d h. length-sha256 _);
    } where
      by_kind : (b : Bool) → length (cond b (published_indexes publisher seq object) segments)
          ≡ cond b count (length object.contents)
      by_kind true = indexes-length publisher seq object
      by_kind false = segment-count publisher seq object

    -- what an index packet is
    pub index_is : (seq k : ℕ) (octets : List ℕ) → seq < 2 ^ 16
        → slice_get (published_indexes publisher seq object) k ≡ Some octets
        → Numbered publisher (record_name publisher.node publisher.group seq) (index_contents segments) k octets
    index_is seq k octets low at =
        numbered_again (record_name publisher.node publisher.group seq) (index_contents segments) k octets
        (record_named seq low) (record_name-short seq low) indexes_small (omega (arith, indexes_count, count_few)) at

    -- and a segment
    pub segment_is : (k : ℕ) (octets : List ℕ) → slice_get segments k ≡ Some octets
        → Numbered publisher object.name object.contents k octets
    segment_is k octets at =
        numbered_again object.name object.contents k octets is_object.name
        (omega (arith, named_short object.name is_object.named)) contents_small (omega (arith, is_object.few)) at

    objects_fit : (seq : ℕ) → seq < 2 ^ 16 → All Short (packets_after publisher seq (Offers object))
    objects_fit seq low =
        let indexes =
        segments_fit keyed publisher.key (record_name publisher.node publisher.group seq)
        (length (index_contents segments) - 1) 0 (index_contents segments) keyed-short (record_name-short seq low)
        (omega (arith, indexes_count, count_few)) (omega (arith, indexes_count, count_few)) indexes_small in
        let others =
        segments_fit keyed publisher.key object.name (length object.contents - 1) 0 object.contents keyed-short
        (omega (arith, named_short object.name is_object.named)) (omega (arith, is_object.few))
        (omega (arith, is_object.few)) contents_small in
        All-append Short (published_indexes publisher seq object) segments indexes others

  -- ---- records

  pub stated_within_limits : (seq : ℕ) (post : Post) → IsPost seq post → seq < 2 ^ 16
      → IsStated (published_record publisher seq post)
  stated_within_limits seq (Offers object) is_post low = listing_within object is_post seq
  stated_within_limits seq (Withdraws withdrawn) is_post low = (is_post.0, omega (arith, is_post.1, low))

  record_short : (seq : ℕ) (post : Post) → IsPost seq post → seq < 2 ^ 16
      → Short (record_packet publisher seq (published_record publisher seq post))
  record_short seq (Offers object) is_post low =
      let within = listing_within object is_post seq in
      listing_packet-size (record_name publisher.node publisher.group seq) (published_listing publisher seq object)
      keyed
      publisher.key (record_name-short seq low) keyed-short (named_short object.name is_post.named) within.few
      within.count within.digests
  record_short seq (Withdraws withdrawn) is_post low =
      withdrawal_packet-size (record_name publisher.node publisher.group seq) withdrawn keyed publisher.key
      (record_name-short seq low) keyed-short (omega (arith, is_post.1, low))

  pub all_fit : (seq : ℕ) (post : Post) → IsPost seq post → seq < 2 ^ 16 → All Short (packets publisher seq post)
  all_fit seq (Offers object) is_post low =
      All-cons Short (record_packet publisher seq (published_record publisher seq (Offers object)))
      (packets_after publisher seq (Offers object)) (record_short seq (Offers object) is_post low)
      (objects_fit object is_post seq low)
  all_fit seq (Withdraws withdrawn) is_post low =
      All-cons Short (record_packet publisher seq (published_record publisher seq (Withdraws withdrawn))) []
      (record_short seq (Withdraws withdrawn) is_post low) (All-nil Short)

  abbrev pub record_read : ℕ → Post → Data
  record_read seq post =
      read_back (record_name publisher.node publisher.group seq) None
      (record_content (published_record publisher seq post)) keyed publisher.key

  pub record_again : (seq : ℕ) (post : Post) → IsPost seq post → seq < 2 ^ 16
      → data_of (record_packet publisher seq (published_record publisher seq post)) ≡ Ok (record_read seq post)
  record_again seq post is_post low =
      data_again (record_name publisher.node publisher.group seq) keyed None
      (record_content (published_record publisher seq post)) publisher.key (record_named seq low)
      (IsName-key publisher.node is_publisher.node.0) (record_short seq post is_post low)

  record_says : (seq : ℕ) (post : Post) → IsPost seq post → seq < 2 ^ 16
      → record_of (record_content (published_record publisher seq post)) ≡ Some (published_record publisher seq post)
  record_says seq post is_post low =
      written_says (published_record publisher seq post) (stated_within_limits seq post is_post low)

  pub record_stated : (seq : ℕ) (post : Post) → IsPost seq post → seq < 2 ^ 16
      → stated_in (record_packet publisher seq (published_record publisher seq post))
      ≡ Some (published_record publisher seq post)
  record_stated seq post is_post low =
      ap (λ r. option_and_then record_of (content_within r)) (record_again seq post is_post low)
      ∙ record_says seq post is_post low

  may_say_so : (seq : ℕ) (post : Post) → IsPost seq post → may_say seq (Some (published_record publisher seq post))
      ≡ true
  may_say_so seq (Offers object) is_post = refl
  may_say_so seq (Withdraws withdrawn) is_post = lt-ltb withdrawn seq is_post.1

  pub record_passes : (part : Part) (post : Post) (octets : List ℕ) → IsPost part.seq post → part.seq < 2 ^ 16
      → packet_at publisher part.seq post 0 ≡ Some octets
      → IsOk (part_verdict (want_record part publisher.node publisher.group) (encoding keyed) publisher.key octets)
  record_passes part post octets is_post low h =
      let is = same_Some (record_packet publisher part.seq (published_record publisher part.seq post)) octets h in
      passing_is_ok (want_record part publisher.node publisher.group) (encoding keyed) publisher.key octets
      (record_read part.seq post) (record {
        read = ap data_of (sym is) ∙ record_again part.seq post is_post low;
        all_signed = refl;
        name = refl;
        digest = tt;
        signature_type = refl;
        locator = keyed;
        located = refl;
        key_named = refl;
        signature = refl;
        stated =
            λ zero. ap (may_say part.seq) (record_says part.seq post is_post low) ∙ may_say_so part.seq post is_post;
        listing = tt;
      })

  -- ---- parts behind the record

  module _ (object : NamedContents) (is_object : IsObject object) where
    abbrev made : List (List ℕ)
    made = published_segments publisher object

    abbrev indexes : ℕ
    indexes = index_packets (length object.contents)

    index_content_is : (k : ℕ) (content : List ℕ) → k < indexes → slice_get (index_contents made) k ≡ Some content
        → content ≡ index_content (map sha256 (listed_by made k))
    index_content_is k content inside at =
        same_Some content (index_content (map sha256 (listed_by made k)))
        (sym at ∙ index_at made k (omega (arith, inside, ap index_packets (segment-count publisher 0 object))))

    listed-count : (k : ℕ) → length (map sha256 (listed_by made k)) ≡ listed_in (length object.contents) k
    listed-count k =
        length-map (listed_by made k) sha256
        ∙ length-take 200 (drop (k * 200) made)
        ∙ ap (min 200) (length-drop (k * 200) made ∙ ap (λ (n : ℕ). n - k * 200) (segment-count publisher 0 object))

    -- an index packet lists the digests of its segments
    index_lists : (k : ℕ) (content : List ℕ) → k < indexes → slice_get (index_contents made) k ≡ Some content
        → index_of content (listed_in (length object.contents) k) ≡ Some (map sha256 (listed_by made k))
    index_lists k content inside at =
        let digests = map sha256 (listed_by made k) in
        ap (λ (c : List ℕ). index_of c (listed_in (length object.contents) k)) (index_content_is k content inside at)
        ∙ ap (index_of (index_content digests)) (sym (listed-count k))
        ∙ written_index digests (All-map IsDigest sha256 (listed_by made k) (λ i d h. length-sha256 _))

    pub index_part : (seq x : ℕ) (octets : List ℕ) → 0 < x → x ≤ indexes
        → packet_at publisher seq (Offers object) x ≡ Some octets
        → slice_get (published_indexes publisher seq object) (x - 1) ≡ Some octets
    index_part seq x octets above low h =
        sym (index_packet_at publisher seq object x (x - 1) (omega (arith, above)) (omega (arith, above, low))) ∙ h

    pub segment_part : (seq x : ℕ) (octets : List ℕ) → indexes < x
        → packet_at publisher seq (Offers object) x ≡ Some octets → slice_get made (x - indexes - 1) ≡ Some octets
    segment_part seq x octets above h =
        sym (segment_packet_at publisher seq object x (x - indexes - 1) (omega (arith, above))) ∙ h

    pub index_again : (seq k : ℕ) (octets : List ℕ) → seq < 2 ^ 16 → k < indexes
        → packet_at publisher seq (Offers object) (k + 1) ≡ Some octets
        → index_in octets (listed_in (length object.contents) k) ≡ Some (map sha256 (listed_by made k))
    index_again seq k octets low inside h =
        let same : k + 1 - 1 ≡ k = omega arith in
        let at =
        ap (slice_get (published_indexes publisher seq object)) (sym same)
        ∙ index_part seq (k + 1) octets (omega arith) (omega (arith, inside)) h in
        let s = index_is object is_object seq k octets low at in
        ap (λ r. option_and_then (λ (c : List ℕ). index_of c (listed_in (length object.contents) k)) (content_within r))
        s.read
        ∙ index_lists k s.content inside s.place

    pub content_again : (seq i : ℕ) (octets : List ℕ)
        → packet_at publisher seq (Offers object) (indexes + i + 1) ≡ Some octets
        → content_in octets ≡ slice_get object.contents i
    content_again seq i octets h =
        let same : indexes + i + 1 - indexes - 1 ≡ i = omega arith in
        let at = ap (slice_get made) (sym same) ∙ segment_part seq (indexes + i + 1) octets (omega arith) h in
        let s = segment_is object is_object i octets at in
        ap content_within s.read ∙ sym s.place

    -- the record lists its digest
    pub index_digest : (seq x : ℕ) (octets : List ℕ) → 0 < x → x ≤ indexes
        → packet_at publisher seq (Offers object) x ≡ Some octets
        → slice_get (map sha256 (listed_packets publisher seq object)) (x - 1) ≡ Some (sha256 octets)
    index_digest seq x octets above below h =
        let kind = indexed_some (length object.contents) (omega (arith, above, below)) in
        let listed : listed_packets publisher seq object ≡ published_indexes publisher seq object =
        ap (λ (b : Bool). cond b (published_indexes publisher seq object) made) kind in
        slice_get-map sha256 (listed_packets publisher seq object) (x - 1)
        ∙ ap (λ (ps : List (List ℕ)). option_map sha256 (slice_get ps (x - 1))) listed
        ∙ ap (option_map sha256) (index_part seq x octets above below h)

    pub index_passes : (part : Part) (octets : List ℕ) → part.seq < 2 ^ 16 → 0 < part.part → part.part ≤ indexes
        → packet_at publisher part.seq (Offers object) part.part ≡ Some octets
        → IsOk
        (part_verdict (want_index part (published_listing publisher part.seq object) publisher.node publisher.group)
        (encoding keyed) publisher.key octets)
    index_passes part octets low above below h =
        let k = part.part - 1 in
        let at = index_part part.seq part.part octets above below h in
        let s = index_is object is_object part.seq k octets low at in
        let digest = index_digest part.seq part.part octets above below h in
        let P : Option (List ℕ) → Type 0 = λ o. IfSome o (λ d. sha256 octets ≡ d) in
        passing_is_ok (want_index part (published_listing publisher part.seq object) publisher.node publisher.group)
        (encoding keyed) publisher.key octets
        (numbered_data publisher (record_name publisher.node publisher.group part.seq)
        (length (index_contents made) - 1) k s.content) (record {
          read = s.read;
          all_signed = refl;
          name = refl;
          digest = subst P (sym digest) refl;
          signature_type = refl;
          locator = keyed;
          located = refl;
          key_named = refl;
          signature = refl;
          stated = λ zero. absurd (omega (arith, zero, above));
          listing = subst IsSome (sym (index_lists k s.content (omega (arith, above, below)) s.place)) refl;
        })

    pub segment_passes : (part : Part) (octets : List ℕ) → indexes < part.part
        → packet_at publisher part.seq (Offers object) part.part ≡ Some octets
        → IsOk
        (part_verdict (want_segment part (shape_in (Offers object)) object.name (sha256 octets)) (encoding keyed)
        publisher.key octets)
    segment_passes part octets above h =
        let k = part.part - indexes - 1 in
        let s = segment_is object is_object k octets (segment_part part.seq part.part octets above h) in
        passing_is_ok (want_segment part (shape_in (Offers object)) object.name (sha256 octets)) (encoding keyed)
        publisher.key octets (numbered_data publisher object.name (length object.contents - 1) k s.content) (record {
          read = s.read;
          all_signed = refl;
          name = refl;
          digest = refl;
          signature_type = refl;
          locator = keyed;
          located = refl;
          key_named = refl;
          signature = refl;
          stated = λ zero. absurd (omega (arith, zero, above));
          listing = tt;
        })

  -- ---- any packet behind a record

  pub record After (seq : ℕ) (post : Post) (x : ℕ) (octets : List ℕ) : Type 0 where
    pub name : List Component
    pub number : ℕ
    pub last : ℕ
    pub content : List ℕ
    pub named : IsName (segment_name name number)
    pub read : data_of octets ≡ Ok (numbered_data publisher name last number content)
    pub stands : slice_get (packets_after publisher seq post) (x - 1) ≡ Some octets

  pub after_is : (seq x : ℕ) (post : Post) (octets : List ℕ) → IsPost seq post → seq < 2 ^ 16 → 0 < x
      → packet_at publisher seq post x ≡ Some octets → After seq post x octets
  after_is seq zero post octets is_post low above h = absurd (omega (arith, above))
  after_is seq (suc k) (Withdraws withdrawn) octets is_post low above h = absurd cc
  after_is seq (suc k) (Offers object) octets is_post low above h =
      let indexes = published_indexes publisher seq object in
      let segments = published_segments publisher object in
      let same : suc k - 1 ≡ k = omega arith in
      let stands = ap (slice_get (indexes ++ segments)) same ∙ h in
      elim (cases_lt k (length indexes)) [
        | inl prefix ↦
            let s =
            index_is object is_post seq k octets low (sym (slice_get-prefix indexes segments k prefix) ∙ h) in
            record {
              name = record_name publisher.node publisher.group seq;
              number = k;
              last = length (index_contents segments) - 1;
              content = s.content;
              named = s.named;
              read = s.read;
              stands = stands;
            }
        | inr back ↦
            let i = k - length indexes in
            let place : k ≡ length indexes + i = omega (arith, back) in
            let s =
            segment_is object is_post i octets
            (sym (slice_get-after indexes segments i) ∙ ap (slice_get (indexes ++ segments)) (sym place) ∙ h) in
            record {
              name = object.name;
              number = i;
              last = length object.contents - 1;
              content = s.content;
              named = s.named;
              read = s.read;
              stands = stands;
            }
      ]

-- the record, and a packet for each part after it
pub packets-length : (publisher : Publisher) (seq : ℕ) (post : Post)
    → length (packets publisher seq post) ≡ last_part (shape_in post) + 1
packets-length publisher seq (Withdraws withdrawn) = refl
packets-length publisher seq (Offers object) =
    omega (
      arith,
      length-append (published_indexes publisher seq object) (published_segments publisher object),
      indexes-length publisher seq object,
      segment-count publisher seq object,
    )

-- the record tells the publication's shape
pub shape_again : (publisher : Publisher) (seq : ℕ) (post : Post)
    → shape_stated (published_record publisher seq post) ≡ shape_in post
shape_again publisher seq (Offers object) = refl
shape_again publisher seq (Withdraws withdrawn) = refl
