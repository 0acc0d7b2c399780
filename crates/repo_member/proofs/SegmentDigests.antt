-- The digest of a published segment stands where its record or its index packet lists it.
use Rattle.std.proofs.Common.{◌≡◌, ℕ, zero, suc, ◌+◌, ◌-◌, ◌*◌, ◌<◌, ◌≤◌, Bool, true, false, cond, not, ◌==◌, ◌||◌}
use Rattle.std.proofs.Common.{List, []}
use Rattle.std.proofs.Common.{◌∷◌, map, length, take, drop, slice_get, Option, Some, option_map}
use Rattle.std.proofs.Common.{unwrap_or, refl}
use Rattle.std.proofs.Common.{sym, ap, ◌∙◌, subst, ◌/◌, arith}
use Rattle.std.specs.Prelude.{nat_le}
use Rattle.std.specs.Option.{option_and_then}
use Rattle.std.proofs.lemmas.Bool.{eqb-true, ne_eqb, lt-leb}
use Rattle.std.proofs.lemmas.Option.{slice_get-map}
use Rattle.sha2.specs.Sha256.{sha256}
use Rattle.repo_plan.specs.declared.part.Part.{Part}
use Rattle.repo_plan.specs.Parts.{IsShape, pair_of, part_of, last_part, parent, parent_number, index_packets}
use Rattle.repo_plan.specs.Parts.{shape_of_segments}
use Rattle.repo_plan.proofs.Parents.{lists_in_turn}
use Rattle.repo_object.specs.Objects.{NamedContents, Post, IsObject, IsPost, Publisher}
use Rattle.repo_object.specs.Objects.Post.{Offers}
use Rattle.repo_object.specs.Publication.{Listed, published_listing, published_segments, published_indexes, listed_by}
use Rattle.repo_object.specs.Publication.{packet_at}
use Rattle.repo_object.specs.Verdict.{index_in}
use Rattle.repo_object.specs.Wants.{listed_in}
use Rattle.repo_object.proofs.Publications.{index_again, segment_part}
use Rattle.group_model.specs.Publications.{Logs, post_at}
use Rattle.group_model.specs.Member.{member_holds}
use Rattle.group_model.specs.Sound.{IsPublished}
use Rattle.repo_holdings.specs.Listed.{stored_at}
use Rattle.repo_holdings.specs.StoredParents.{index_at, digests_at, place_listed}
use Rattle.repo_holdings.proofs.GainingLemmas.{contains-value}
use Rattle.repo_member.specs.Groups.{GroupKeys, publisher_at}
use Rattle.repo_member.specs.MemberState.{MemberState}
use Rattle.repo_member.specs.InGroup.{in_group, AreLogs, StoresConsistently}
use Rattle.repo_member.proofs.ConsistentPackets.{is_there, published_post, published_by, published_low}

-- ---- places of lists

at_drop : {A : Type 0} (n : ℕ) (xs : List A) (i : ℕ) → slice_get (drop n xs) i ≡ slice_get xs (n + i)
at_drop zero xs i = let same : i ≡ 0 + i = omega arith in ap (slice_get xs) same
at_drop (suc n) [] i = refl
at_drop (suc n) (x ∷ xs) i =
    let more : suc (n + i) ≡ suc n + i = omega arith in at_drop n xs i ∙ ap (slice_get (x ∷ xs)) more

at_take : {A : Type 0} (n : ℕ) (xs : List A) (i : ℕ) → i < n → slice_get (take n xs) i ≡ slice_get xs i
at_take zero xs i h = absurd (omega (arith, h))
at_take (suc n) [] i h = refl
at_take (suc n) (x ∷ xs) zero h = refl
at_take (suc n) (x ∷ xs) (suc i) h = at_take n xs i (omega (arith, h))

-- ---- a segment

module _ (g : GroupKeys) (logs : Logs) (a : MemberState) (are : AreLogs g logs)
    (consistent : StoresConsistently g logs a) (t : Part)
    (there : IsPublished logs (pair_of t)) (object : NamedContents) (is : post_at logs (pair_of t) ≡ Offers object)
    (above : index_packets (length object.contents) < t.part)
    (counted : t.part ≤ last_part (shape_of_segments (length object.contents)))
    (held : member_holds (in_group a) (parent (shape_of_segments (length object.contents)) t) ≡ true)
    (octets : List ℕ)
    (its : packet_at (publisher_at g t.publisher) t.seq (Offers object) t.part ≡ Some octets) where
  abbrev n : ℕ
  n = length object.contents

  abbrev by : Publisher
  by = publisher_at g t.publisher

  abbrev lists : Listed
  lists = published_listing by t.seq object

  abbrev segments : List (List ℕ)
  segments = published_segments by object

  abbrev i : ℕ
  i = t.part - index_packets n - 1

  abbrev k : ℕ
  k = parent_number (shape_of_segments n) t.part

  is_object : IsObject object
  is_object = subst (IsPost t.seq) is (published_post g logs are (pair_of t) there)

  segment : slice_get segments i ≡ Some octets
  segment =
      segment_part by (published_by g logs are (pair_of t) there) object is_object t.seq t.part octets above its

  hashed : slice_get (map sha256 segments) i ≡ Some (sha256 octets)
  hashed = slice_get-map sha256 segments i ∙ ap (option_map sha256) segment

  sized : IsShape (shape_of_segments n)
  sized = record { index = refl; segments = is_object.few }

  -- the record lists it where there are no index packets
  in_record : (index_packets n == 0) ≡ true
      → slice_get (digests_at a.store (pair_of t) lists k) (place_listed (shape_of_segments n) t.part)
      ≡ Some (sha256 octets)
  in_record p =
      let none : index_packets n ≡ 0 = eqb-true (index_packets n) 0 p in
      let number : k ≡ 0 =
      ap (λ (b : Bool). cond (b || nat_le t.part (index_packets n)) 0 (1 + (t.part - index_packets n - 1) / 200)) p in
      let place : place_listed (shape_of_segments n) t.part ≡ i =
      ap (λ (b : Bool). cond b (t.part - 1) (t.part - index_packets n - 1 - (k - 1) * 200)) p
      ∙ omega (arith, none) in
      ap (slice_get (digests_at a.store (pair_of t) lists k)) place
      ∙ ap (λ (x : ℕ). slice_get (digests_at a.store (pair_of t) lists x) i) number
      ∙ ap (λ (b : Bool). slice_get (map sha256 (cond b (published_indexes by t.seq object) segments)) i)
      (ap not p)
      ∙ hashed

  -- and else an index packet does, which is stored
  module _ (p : (index_packets n == 0) ≡ false) where
    number : k ≡ 1 + i / 200
    number =
        ap (λ (b : Bool). cond (b || nat_le t.part (index_packets n)) 0 (1 + (t.part - index_packets n - 1) / 200)) p
        ∙ ap (λ (b : Bool). cond b 0 (1 + (t.part - index_packets n - 1) / 200)) (lt-leb t.part (index_packets n) above)

    some : 1 ≤ k
    some = omega (arith, number)

    within : k ≤ index_packets n
    within = (lists_in_turn (shape_of_segments n) sized).listed t.part counted

    around : (200 * (k - 1) ≤ i) × (i < 200 * k)
    around =
        let at : index_packets n + 1 + i ≡ t.part = omega (arith, above) in
        ((lists_in_turn (shape_of_segments n) sized).by_index k i some within).0
        (ap (parent_number (shape_of_segments n)) at)

    index : (o : List ℕ) × (stored_at a.store (pair_of t) k ≡ Some o)
    index =
        is_there (stored_at a.store (pair_of t) k) (sym (contains-value a.store (part_of (pair_of t) k)) ∙ held)

    index_read : index_at a.store (pair_of t) n k ≡ Some (map sha256 (listed_by segments (k - 1)))
    index_read =
        let next : k - 1 + 1 ≡ k = omega (arith, some) in
        ap (option_and_then (λ o. index_in o (listed_in n (k - 1)))) index.1
        ∙ index_again by (published_by g logs are (pair_of t) there) object is_object t.seq (k - 1) index.0
        (published_low g logs are (pair_of t) there) (omega (arith, some, within))
        (ap (packet_at by t.seq (Offers object)) next
        ∙ ap (λ (post : Post). packet_at by t.seq post k) (sym is)
        ∙ consistent.packets (part_of (pair_of t) k) index.0 index.1)

    in_index : slice_get (digests_at a.store (pair_of t) lists k) (place_listed (shape_of_segments n) t.part)
        ≡ Some (sha256 octets)
    in_index =
        let place : place_listed (shape_of_segments n) t.part ≡ i - (k - 1) * 200 =
        ap (λ (b : Bool). cond b (t.part - 1) (t.part - index_packets n - 1 - (k - 1) * 200)) p in
        let low : i - (k - 1) * 200 < 200 = omega (arith, around.0, around.1, some) in
        let whole : (k - 1) * 200 + (i - (k - 1) * 200) ≡ i = omega (arith, around.0) in
        let not_first : (k == 0) ≡ false = ne_eqb k 0 (λ e. omega (arith, e, some)) in
        ap (slice_get (digests_at a.store (pair_of t) lists k)) place
        ∙ ap (λ (b : Bool). slice_get (cond b lists.digests (unwrap_or (index_at a.store (pair_of t) n k) []))
        (i - (k - 1) * 200)) not_first
        ∙ ap (λ (o : Option (List (List ℕ))). slice_get (unwrap_or o []) (i - (k - 1) * 200)) index_read
        ∙ slice_get-map sha256 (listed_by segments (k - 1)) (i - (k - 1) * 200)
        ∙ ap (option_map sha256)
        (at_take 200 (drop ((k - 1) * 200) segments) (i - (k - 1) * 200) low
        ∙ at_drop ((k - 1) * 200) segments (i - (k - 1) * 200)
        ∙ ap (slice_get segments) whole
        ∙ segment)

  pub digest_found : slice_get (digests_at a.store (pair_of t) lists k) (place_listed (shape_of_segments n) t.part)
      ≡ Some (sha256 octets)
  digest_found = go (index_packets n == 0) refl where
    go : (b : Bool) → (index_packets n == 0) ≡ b
        → slice_get (digests_at a.store (pair_of t) lists k) (place_listed (shape_of_segments n) t.part)
        ≡ Some (sha256 octets)
    go true p = in_record p
    go false p = in_index p
