-- Packets, and what they list, written one after another.
use Rattle.std.proofs.Common.{◌≡◌, ℕ, ◌+◌, ◌-◌, ◌*◌, ◌<◌, ◌≤◌, zero, suc, cond, List, [], ◌∷◌, ◌++◌, length, map}
use Rattle.std.proofs.Common.{take, drop}
use Rattle.std.proofs.Common.{append_assoc, get_or, Vec, Global, Some, None, option_map, refl, sym, ap}
use Rattle.std.proofs.Common.{subst, ◌∙◌, inl, inr, arith}
use Rattle.std.specs.List.{All, slice_get}
use Rattle.std.proofs.lemmas.List.{append-nil, at_drop_more, at_drop_all, length-map, length-take, get_or-map, take-map}
use Rattle.std.proofs.lemmas.List.{drop-map, take_all}
use Rattle.std.proofs.lemmas.Bool.{cases_lt}
use Rattle.std.proofs.lemmas.List.Elements.{All-get_or, All-take, All-drop}
use Rattle.std.proofs.lemmas.Option.{slice_get-map}
use Rattle.sha2.specs.Sha256.{sha256}
use Rattle.sorted_lists.specs.Range.{numbers_from}
use Rattle.sorted_lists.proofs.Ranges.{length-numbers}
use Rattle.ndn_name.specs.Names.{Component}
use Rattle.ndn_name.proofs.ComputedValues.{option_map_some}
use Rattle.ndn_data.specs.WrittenData.{written_data}
use Rattle.repo_plan.specs.Parts.{index_packets}
use Rattle.repo_object.specs.Objects.{NamedContents, IsContent, Publisher, key_name, record_name}
use Rattle.repo_object.specs.Objects.Post.{Offers}
use Rattle.repo_object.specs.Publication.{index_content, index_contents, segment_packet, segment_packets_from}
use Rattle.repo_object.specs.Publication.{listed_by}
use Rattle.repo_object.specs.Publication.{is_indexed, record_content, packets_under, published_segments}
use Rattle.repo_object.specs.Publication.{published_indexes, listed_packets, published_record, record_packet, packets}
use Rattle.repo_object.specs.Publication.{packet_at}
use Rattle.repo_object.specs.Records.{listed_record}
use Rattle.repo_object.proofs.Places.{slice_get-prefix, slice_get-after, numbers-at}

abbrev pub items : Vec ℕ Global → List ℕ
items v = v.items

pub content_is : (contents : List (Vec ℕ Global)) (i : ℕ) (content : Vec ℕ Global) → i < length contents
    → content ≡ get_or contents i content → get_or (map items contents) i content.items ≡ content.items
content_is contents i content low is = get_or-map items contents i content content.items low ∙ ap items (sym is)

-- contents are within their limits where their octets are
pub are_contents : (contents : List (Vec ℕ Global)) → All IsContent (map items contents)
    → All (λ c. IsContent c.items) contents
are_contents contents all i d low =
    subst IsContent (get_or-map items contents i d d.items low)
    (all i d.items (omega (arith, length-map contents items)))

-- the content at a place is within its limit
pub content_at : (contents : List (Vec ℕ Global)) (i : ℕ) (content : Vec ℕ Global) → i < length contents
    → content ≡ get_or contents i content → All IsContent (map items contents) → IsContent content.items
content_at contents i content low is all =
    subst IsContent (content_is contents i content low is)
    (All-get_or IsContent (map items contents) i content.items (omega (arith, length-map contents items)) all)

-- ---- packets that are numbered under a name

module _ (keyed : List Component) (key : List ℕ) (name : List Component) (last : ℕ) (contents : List (List ℕ))
    (made whole : List (List ℕ)) where
  pub segments_more : (n i : ℕ) (content packet : List ℕ) → i < length contents → get_or contents i content ≡ content
      → packet ≡ segment_packet keyed key name last n content
      → made ++ segment_packets_from keyed key name last n (drop i contents) ≡ whole
      → (made ++ packet ∷ []) ++ segment_packets_from keyed key name last (n + 1) (drop (i + 1) contents) ≡ whole
  unfolding segment_packets_from
  segments_more n i content packet low at is so_far =
      let rest = segment_packets_from keyed key name last (n + 1) (drop (i + 1) contents) in
      append_assoc made (packet ∷ []) rest
      ∙ ap (λ (p : List ℕ). made ++ p ∷ rest) (is ∙ ap (segment_packet keyed key name last n) (sym at))
      ∙ ap (λ (ps : List (List ℕ)). made ++ ps)
      (sym (at_drop_more (segment_packets_from keyed key name last n) contents i content low))
      ∙ so_far

  pub segments_end : (n i : ℕ) → length contents ≤ i
      → made ++ segment_packets_from keyed key name last n (drop i contents) ≡ whole → made ≡ whole
  unfolding segment_packets_from
  segments_end n i past so_far =
      sym (append-nil made)
      ∙ ap (λ (ps : List (List ℕ)). made ++ ps)
      (sym (at_drop_all (segment_packets_from keyed key name last n) contents i past))
      ∙ so_far

module _ (keyed : List Component) (key : List ℕ) (name : List Component) (last : ℕ) where
  pub segments-length : (i : ℕ) (contents : List (List ℕ))
      → length (segment_packets_from keyed key name last i contents) ≡ length contents
  unfolding segment_packets_from
  segments-length i [] = refl
  segments-length i (content ∷ contents) = ap suc (segments-length (i + 1) contents)

  -- the packets after the first `n` are those of the contents after the first `n`
  segments-drop : (i n : ℕ) (contents : List (List ℕ))
      → drop n (segment_packets_from keyed key name last i contents)
      ≡ segment_packets_from keyed key name last (i + n) (drop n contents)
  unfolding segment_packets_from
  segments-drop i zero contents =
      let same : i ≡ i + 0 = omega arith in
      ap (λ (k : ℕ). segment_packets_from keyed key name last k contents) same
  segments-drop i (suc n) [] = refl
  segments-drop i (suc n) (content ∷ contents) =
      let same : i + 1 + n ≡ i + suc n = omega arith in
      segments-drop (i + 1) n contents
      ∙ ap (λ (k : ℕ). segment_packets_from keyed key name last k (drop n contents)) same

  segments-take : (i n : ℕ) (contents : List (List ℕ))
      → take n (segment_packets_from keyed key name last i contents)
      ≡ segment_packets_from keyed key name last i (take n contents)
  unfolding segment_packets_from
  segments-take i zero contents = refl
  segments-take i (suc n) [] = refl
  segments-take i (suc n) (content ∷ contents) =
      ap (λ (ps : List (List ℕ)). segment_packet keyed key name last i content ∷ ps) (segments-take (i + 1) n contents)

  pub segments_listed : (contents : List (List ℕ)) (k : ℕ)
      → segment_packets_from keyed key name last (k * 200) (listed_by contents k)
      ≡ listed_by (segment_packets_from keyed key name last 0 contents) k
  segments_listed contents k =
      let same : 0 + k * 200 ≡ k * 200 = omega arith in
      ap (λ (n : ℕ). segment_packets_from keyed key name last n (listed_by contents k)) (sym same)
      ∙ sym (segments-take (0 + k * 200) 200 (drop (k * 200) contents))
      ∙ ap (take 200) (sym (segments-drop 0 (k * 200) contents))

-- the packet of the segment at a place, alone
pub segment_at :
    (keyed : List Component) (key : List ℕ) (name : List Component) (last j : ℕ) (contents : List (List ℕ)) (i : ℕ)
    → slice_get (segment_packets_from keyed key name last j contents) i
    ≡ option_map (segment_packet keyed key name last (j + i)) (slice_get contents i)
unfolding segment_packets_from
segment_at keyed key name last j [] i = refl
segment_at keyed key name last j (content ∷ contents) zero =
    let same : j ≡ j + 0 = omega arith in
    ap (λ (n : ℕ). Some (segment_packet keyed key name last n content)) same
segment_at keyed key name last j (content ∷ contents) (suc i) =
    let same : j + 1 + i ≡ j + suc i = omega arith in
    segment_at keyed key name last (j + 1) contents i
    ∙ ap (λ (n : ℕ). option_map (segment_packet keyed key name last n) (slice_get contents i)) same

-- the packet at a place is that of the content at that place
pub segment_from : (keyed : List Component) (key : List ℕ) (name : List Component) (last j : ℕ)
    (contents : List (List ℕ)) (i : ℕ) (octets : List ℕ)
    → slice_get (segment_packets_from keyed key name last j contents) i ≡ Some octets
    → (content : List ℕ) × (slice_get contents i ≡ Some content)
    × (segment_packet keyed key name last (j + i) content ≡ octets)
segment_from keyed key name last j contents i octets h =
    option_map_some (segment_packet keyed key name last (j + i)) (slice_get contents i) octets
    (sym (segment_at keyed key name last j contents i) ∙ h)

-- ---- index packets

pub listed-map : (contents : List (Vec ℕ Global)) (k : ℕ) → map items (listed_by contents k)
    ≡ listed_by (map items contents) k
listed-map contents k =
    sym (take-map items 200 (drop (k * 200) contents)) ∙ ap (take 200) (sym (drop-map items (k * 200) contents))

pub take_upto : {A : Type 0} (m n : ℕ) (xs : List A) → m ≤ n → (m < n → length xs ≤ m) → take m xs ≡ take n xs
take_upto m n xs low all =
    elim (cases_lt m n) [
      | inl less ↦
          let few = all less in take_all m xs few ∙ sym (take_all n xs (omega (arith, few, low)))
      | inr same ↦ let e : m ≡ n = omega (arith, low, same) in ap (λ (k : ℕ). take k xs) e
    ]

pub all_listed : {A : Type 0} (P : A → Type 0) (all : List A) (k : ℕ) → All P all → All P (listed_by all k)
all_listed P all k holds = All-take P 200 (drop (k * 200) all) (All-drop P (k * 200) all holds)

pub listed-length : {A : Type 0} (all : List A) (k : ℕ) → length (listed_by all k) ≤ 200
listed-length all k = omega (arith, length-take 200 (drop (k * 200) all))

pub index-count : (segments : List (List ℕ)) → length (index_contents segments) ≡ index_packets (length segments)
index-count segments =
    length-map (numbers_from 0 (index_packets (length segments)))
    (λ (k : ℕ). index_content (map sha256 (listed_by segments k)))
    ∙ length-numbers 0 (index_packets (length segments))

pub index_at : (segments : List (List ℕ)) (k : ℕ) → k < index_packets (length segments)
    → slice_get (index_contents segments) k ≡ Some (index_content (map sha256 (listed_by segments k)))
index_at segments k low =
    let content : ℕ → List ℕ = λ n. index_content (map sha256 (listed_by segments n)) in
    let none : 0 + k ≡ k = omega arith in
    slice_get-map content (numbers_from 0 (index_packets (length segments))) k
    ∙ ap (option_map content) (numbers-at 0 (index_packets (length segments)) k low)
    ∙ ap (λ (n : ℕ). Some (content n)) none

-- ---- the packets of a publication by their places

module _ (publisher : Publisher) (seq : ℕ) (object : NamedContents) where
  abbrev segments : List (List ℕ)
  segments = published_segments publisher object

  pub segment-count : length segments ≡ length object.contents
  segment-count =
      segments-length (key_name publisher.node) publisher.key object.name (length object.contents - 1) 0 object.contents

  pub indexes-length : length (published_indexes publisher seq object) ≡ index_packets (length object.contents)
  indexes-length =
      segments-length (key_name publisher.node) publisher.key (record_name publisher.node publisher.group seq)
      (length (index_contents segments) - 1) 0 (index_contents segments)
      ∙ index-count segments
      ∙ ap index_packets segment-count

  pub index_packet_at : (x k : ℕ) → x ≡ suc k → k < index_packets (length object.contents)
      → packet_at publisher seq (Offers object) x ≡ slice_get (published_indexes publisher seq object) k
  index_packet_at x k is low =
      ap (packet_at publisher seq (Offers object)) is
      ∙ slice_get-prefix (published_indexes publisher seq object) segments k (omega (arith, low, indexes-length))

  pub segment_packet_at : (x i : ℕ) → x ≡ suc (index_packets (length object.contents) + i)
      → packet_at publisher seq (Offers object) x ≡ slice_get segments i
  segment_packet_at x i is =
      let after : index_packets (length object.contents) + i ≡ length (published_indexes publisher seq object) + i =
      ap (λ (n : ℕ). n + i) (sym indexes-length) in
      ap (packet_at publisher seq (Offers object)) is
      ∙ ap (slice_get (published_indexes publisher seq object ++ segments)) after
      ∙ slice_get-after (published_indexes publisher seq object) segments i

  -- an index packet is made of what it lists
  pub index_made : (k last : ℕ) → k < index_packets (length object.contents)
      → last ≡ index_packets (length object.contents) - 1
      → slice_get (published_indexes publisher seq object) k
      ≡ Some (segment_packet (key_name publisher.node) publisher.key (record_name publisher.node publisher.group seq)
      last k (index_content (map sha256 (listed_by segments k))))
  index_made k last low is =
      let name = record_name publisher.node publisher.group seq in
      let keyed = key_name publisher.node in
      let contents = index_contents segments in
      let content = index_content (map sha256 (listed_by segments k)) in
      let at = index_at segments k (omega (arith, low, ap index_packets segment-count)) in
      let none : 0 + k ≡ k = omega arith in
      let same : length contents - 1 ≡ last = omega (arith, is, index-count segments, ap index_packets segment-count) in
      segment_at keyed publisher.key name (length contents - 1) 0 contents k
      ∙ ap (option_map (segment_packet keyed publisher.key name (length contents - 1) (0 + k))) at
      ∙ ap (λ (n : ℕ). Some (segment_packet keyed publisher.key name (length contents - 1) n content)) none
      ∙ ap (λ (n : ℕ). Some (segment_packet keyed publisher.key name n k content)) same

-- ---- all packets of an object's publication

abbrev numbered_from : List Component → List ℕ → List Component → ℕ → List (List ℕ) → List (List ℕ)
numbered_from keyed key name last contents = segment_packets_from keyed key name last 0 contents

abbrev listing_packet : List Component → List Component → List ℕ → List Component → ℕ → List (List ℕ) → List ℕ
listing_packet name keyed key object_name segments listed =
    written_data name None (record_content (listed_record object_name segments (map sha256 listed))) keyed key

module _ (publisher : Publisher) (seq : ℕ) (object : NamedContents) (keyed name object_name : List Component)
    (last count : ℕ) (contents made indexes listed : List (List ℕ)) (first : List ℕ)
    (key_is : keyed ≡ key_name publisher.node)
    (name_is : name ≡ record_name publisher.node publisher.group seq)
    (object_is : object_name ≡ object.name) (contents_are : contents ≡ object.contents)
    (last_is : last ≡ length object.contents - 1) (count_is : count ≡ length object.contents)
    (made_so : made ≡ segment_packets_from keyed publisher.key object_name last 0 contents)
    (indexes_so : indexes ≡ packets_under keyed publisher.key name (index_contents made))
    (listed_so : listed ≡ cond (is_indexed (length made)) indexes made)
    (first_so : first ≡ listing_packet name keyed publisher.key object_name count listed) where
  made_are : made ≡ published_segments publisher object
  made_are =
      made_so
      ∙ ap (λ (n : List Component). numbered_from keyed publisher.key n last contents) object_is
      ∙ ap (λ (n : ℕ). numbered_from keyed publisher.key object.name n contents) last_is
      ∙ ap (numbered_from keyed publisher.key object.name (length object.contents - 1)) contents_are
      ∙ ap (λ (n : List Component).
      numbered_from n publisher.key object.name (length object.contents - 1) object.contents) key_is

  indexes_are : indexes ≡ published_indexes publisher seq object
  indexes_are =
      let segments = published_segments publisher object in
      indexes_so
      ∙ ap (λ (ps : List (List ℕ)). packets_under keyed publisher.key name (index_contents ps)) made_are
      ∙ ap (λ (n : List Component). packets_under keyed publisher.key n (index_contents segments)) name_is
      ∙ ap (λ (n : List Component).
      packets_under n publisher.key (record_name publisher.node publisher.group seq) (index_contents segments)) key_is

  listed_are : listed ≡ listed_packets publisher seq object
  listed_are =
      let segments = published_segments publisher object in
      listed_so
      ∙ ap (λ (ps : List (List ℕ)). cond (is_indexed (length ps)) indexes ps) made_are
      ∙ ap (λ (ps : List (List ℕ)). cond (is_indexed (length segments)) ps segments) indexes_are
      ∙ ap (λ (n : ℕ). cond (is_indexed n) (published_indexes publisher seq object) segments)
      (segment-count publisher seq object)

  first_is : first ≡ record_packet publisher seq (published_record publisher seq (Offers object))
  first_is =
      first_so
      ∙ ap (λ (n : List Component). listing_packet n keyed publisher.key object_name count listed) name_is
      ∙ ap (λ (n : List Component).
      listing_packet (record_name publisher.node publisher.group seq) n publisher.key object_name count listed) key_is
      ∙ ap (λ (n : List Component). listing_packet (record_name publisher.node publisher.group seq)
      (key_name publisher.node) publisher.key n count listed) object_is
      ∙ ap (λ (n : ℕ). listing_packet (record_name publisher.node publisher.group seq) (key_name publisher.node)
      publisher.key object.name n listed) count_is
      ∙ ap (listing_packet (record_name publisher.node publisher.group seq) (key_name publisher.node) publisher.key
      object.name (length object.contents)) listed_are

  pub packets_made : first ∷ (indexes ++ made) ≡ packets publisher seq (Offers object)
  packets_made =
      ap (λ (p : List ℕ). p ∷ (indexes ++ made)) first_is
      ∙ ap (λ (ps : List (List ℕ)).
      record_packet publisher seq (published_record publisher seq (Offers object)) ∷ (ps ++ made)) indexes_are
      ∙ ap (λ (ps : List (List ℕ)).
      record_packet publisher seq (published_record publisher seq (Offers object))
      ∷ (published_indexes publisher seq object ++ ps)) made_are
