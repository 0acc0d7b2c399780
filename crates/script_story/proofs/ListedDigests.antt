-- The digest of each packet after a record stands where the record or an index packet lists it.
use Rattle.std.proofs.Common.{◌≡◌, ℕ, ◌+◌, ◌-◌, ◌*◌, ◌^◌, ◌/◌, ◌<◌, ◌≤◌, Bool, true, false, cond, not, ◌==◌, ◌||◌}
use Rattle.std.proofs.Common.{List, [], map, length, take, drop, get_or, min, slice_get, Option, Some, option_map}
use Rattle.std.proofs.Common.{unwrap_or, inl, inr, refl, ap, ◌∙◌, arith}
use Rattle.std.specs.Prelude.{nat_le}
use Rattle.std.specs.Option.{option_and_then}
use Rattle.std.proofs.lemmas.Bool.{cases_lt, eqb-true, ne_eqb, lt-leb}
use Rattle.std.proofs.lemmas.List.{get_or-drop, get_or-take, length-drop, length-take}
use Rattle.std.proofs.lemmas.Option.{get_or_from_slice_get, slice_get-get_or, slice_get-map, slice_get_within}
use Rattle.sha2.specs.Sha256.{sha256}
use Rattle.repo_plan.specs.Parts.{IsShape, index_packets, parent_number, last_part, shape_of_segments}
use Rattle.repo_plan.specs.declared.shape.Shape.{Shape}
use Rattle.repo_plan.proofs.Parents.{by_record, lists_in_turn}
use Rattle.repo_object.specs.Objects.{IsObject, IsPost, IsPublisher, NamedContents, Post, Publisher, shape_in}
use Rattle.repo_object.specs.Objects.Post.{Offers, Withdraws}
use Rattle.repo_object.specs.Publication.{listed_by, listed_packets, packet_at, packets, published_indexes}
use Rattle.repo_object.specs.Publication.{published_segments}
use Rattle.repo_object.specs.Verdict.{index_in}
use Rattle.repo_object.specs.Wants.{listed_in}
use Rattle.repo_object.proofs.Publications.{index_again, index_digest, packets-length, record_stated, segment_part}
use Rattle.script_story.specs.ListedDigests.{ListsDigest, digests_stated, listed_digests}

-- ---- an object

module _ (by : Publisher) (is_publisher : IsPublisher by) (seq : ℕ) (low : seq < 2 ^ 16) (object : NamedContents)
    (is_object : IsObject object) (x : ℕ) (after : 0 < x)
    (counted : x ≤ last_part (shape_of_segments (length object.contents))) (octets : List ℕ)
    (its : packet_at by seq (Offers object) x ≡ Some octets) where
  abbrev n : ℕ
  n = length object.contents

  abbrev shape : Shape
  shape = shape_of_segments n

  abbrev segments : List (List ℕ)
  segments = published_segments by object

  abbrev i : ℕ
  i = x - index_packets n - 1

  abbrev k : ℕ
  k = parent_number shape x

  sized : IsShape shape
  sized = record { index = refl; segments = is_object.few }

  record_lists : listed_digests by seq (Offers object) 0 ≡ map sha256 (listed_packets by seq object)
  record_lists = ap digests_stated (record_stated by is_publisher seq (Offers object) is_object low)

  -- where the record lists it
  in_record : k ≡ 0 → slice_get (map sha256 (listed_packets by seq object)) (x - 1) ≡ Some (sha256 octets)
      → ListsDigest by seq (Offers object) x octets
  in_record first at =
      ap (λ (m : ℕ). slice_get (listed_digests by seq (Offers object) m)
      (cond (m == 0) (x - 1) (x - index_packets n - 1 - (m - 1) * 200))) first
      ∙ ap (λ (digests : List (List ℕ)). slice_get digests (x - 1)) record_lists
      ∙ at

  of_index : x ≤ index_packets n → ListsDigest by seq (Offers object) x octets
  of_index below =
      in_record (by_record shape x below) (index_digest by is_publisher object is_object seq x octets after below its)

  -- ---- a segment

  module _ (above : index_packets n < x) where
    segment : slice_get segments i ≡ Some octets
    segment = segment_part by is_publisher object is_object seq x octets above its

    without_indexes : (index_packets n == 0) ≡ true → ListsDigest by seq (Offers object) x octets
    without_indexes p =
        let none : index_packets n ≡ 0 = eqb-true (index_packets n) 0 p in
        let place : x - 1 ≡ i = omega (arith, none) in
        in_record ((lists_in_turn shape sized).without_index none x)
        (ap (λ (b : Bool). slice_get (map sha256 (cond (not b) (published_indexes by seq object) segments)) (x - 1)) p
        ∙ ap (slice_get (map sha256 segments)) place
        ∙ slice_get-map sha256 segments i
        ∙ ap (option_map sha256) segment)

    -- an index packet lists it
    module _ (p : (index_packets n == 0) ≡ false) where
      number : k ≡ 1 + i / 200
      number =
          ap (λ (b : Bool). cond (b || nat_le x (index_packets n)) 0 (1 + (x - index_packets n - 1) / 200)) p
          ∙ ap (λ (b : Bool). cond b 0 (1 + (x - index_packets n - 1) / 200)) (lt-leb x (index_packets n) above)

      some : 1 ≤ k
      some = omega (arith, number)

      within : k ≤ index_packets n
      within = (lists_in_turn shape sized).listed x counted

      around : (200 * (k - 1) ≤ i) × (i < 200 * k)
      around =
          let at : index_packets n + 1 + i ≡ x = omega (arith, above) in
          ((lists_in_turn shape sized).by_index k i some within).0 (ap (parent_number shape) at)

      abbrev index : List ℕ
      index = get_or (packets by seq (Offers object)) k []

      index_is : packet_at by seq (Offers object) k ≡ Some index
      index_is =
          slice_get-get_or (packets by seq (Offers object)) k []
          (omega (arith, packets-length by seq (Offers object), within))

      index_read : index_in index (listed_in n (k - 1)) ≡ Some (map sha256 (listed_by segments (k - 1)))
      index_read =
          let next : k - 1 + 1 ≡ k = omega (arith, some) in
          index_again by is_publisher object is_object seq (k - 1) index low (omega (arith, some, within))
          (ap (packet_at by seq (Offers object)) next ∙ index_is)

      abbrev place : ℕ
      place = i - (k - 1) * 200

      listed_there : slice_get (listed_by segments (k - 1)) place ≡ Some octets
      listed_there =
          let after : List (List ℕ) = drop ((k - 1) * 200) segments in
          let whole : (k - 1) * 200 + place ≡ i = omega (arith, around.0) in
          let within_all : i < length segments = slice_get_within segments i octets segment in
          let long : length (take 200 after) ≡ min 200 (length segments - (k - 1) * 200) =
          length-take 200 after ∙ ap (min 200) (length-drop ((k - 1) * 200) segments) in
          let near : place < 200 = omega (arith, around.0, around.1, some) in
          let inside : place < length (take 200 after) = omega (arith, long, within_all, near, whole) in
          let found : get_or (take 200 after) place [] ≡ octets =
          get_or-take 200 after place [] near
          ∙ get_or-drop ((k - 1) * 200) segments place []
          ∙ ap (λ (n : ℕ). get_or segments n []) whole
          ∙ get_or_from_slice_get segments i octets [] segment in
          slice_get-get_or (take 200 after) place [] inside
          ∙ ap (λ (o : List ℕ). let found : Option (List ℕ) = Some o in found) found

      in_index : ListsDigest by seq (Offers object) x octets
      in_index =
          let not_first : (k == 0) ≡ false = ne_eqb k 0 (λ e. omega (arith, e, some)) in
          ap (λ (b : Bool). slice_get (cond b (listed_digests by seq (Offers object) 0)
          (unwrap_or (option_and_then (λ (o : List ℕ). index_in o (listed_in n (k - 1)))
          (packet_at by seq (Offers object) k)) [])) (cond b (x - 1) place)) not_first
          ∙ ap (λ (o : Option (List ℕ)).
          slice_get (unwrap_or (option_and_then (λ (u : List ℕ). index_in u (listed_in n (k - 1))) o) []) place)
          index_is
          ∙ ap (λ (o : Option (List (List ℕ))). slice_get (unwrap_or o []) place) index_read
          ∙ slice_get-map sha256 (listed_by segments (k - 1)) place
          ∙ ap (option_map sha256) listed_there

    of_segment : ListsDigest by seq (Offers object) x octets
    of_segment = go (index_packets n == 0) refl where
      go : (b : Bool) → (index_packets n == 0) ≡ b → ListsDigest by seq (Offers object) x octets
      go true p = without_indexes p
      go false p = in_index p

  of_object : ListsDigest by seq (Offers object) x octets
  of_object = elim (cases_lt (index_packets n) x) [
    | inl above ↦ of_segment above
    | inr below ↦ of_index below
  ]

-- ---- any publication

pub lists_digest : (by : Publisher) → IsPublisher by → (seq : ℕ) (post : Post) → IsPost seq post → seq < 2 ^ 16
    → (x : ℕ) → 0 < x → x ≤ last_part (shape_in post) → (octets : List ℕ) → packet_at by seq post x ≡ Some octets
    → ListsDigest by seq post x octets
lists_digest by is_publisher seq (Offers object) is_post low x after counted octets its =
    of_object by is_publisher seq low object is_post x after counted octets its
lists_digest by is_publisher seq (Withdraws withdrawn) is_post low x after counted octets its =
    absurd (omega (arith, after, counted))
