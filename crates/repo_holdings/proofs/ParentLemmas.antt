-- Where the digest of a segment stands, among those that its record or its index packet lists.
use Rattle.std.proofs.Common.{◌≡◌, ℕ, ◌+◌, ◌-◌, ◌*◌, ◌/◌, ◌≤◌, ◌<◌, Bool, true, false, not, cond, ◌==◌, ◌||◌, List}
use Rattle.std.proofs.Common.{[], length, sym}
use Rattle.std.proofs.Common.{ap, ◌∙◌, subst, refl, Option, Some, None, arith}
use Rattle.std.specs.Prelude.{nat_le, IsSome, slice_get}
use Rattle.std.specs.Option.{option_and_then}
use Rattle.std.proofs.lemmas.Bool.{true≢false, eqb-true, eqb-false, lt-leb}
use Rattle.std.proofs.lemmas.Option.{slice_get-get_or}
use Rattle.repo_plan.specs.declared.part.Part.{Part}
use Rattle.repo_plan.specs.declared.shape.Shape.{Shape}
use Rattle.repo_plan.specs.Parts.{Pair, IsShape, index_packets, most_listed, pair_of, parent_number}
use Rattle.repo_plan.proofs.Parents.{lists_in_turn}
use Rattle.repo_object.specs.Publication.{count_listed}
use Rattle.repo_object.specs.Formats.{IsListing}
use Rattle.repo_object.specs.Records.{index_of}
use Rattle.repo_object.specs.Verdict.{content_in, index_in}
use Rattle.repo_object.specs.Wants.{listed_in}
use Rattle.repo_object.proofs.RecordLemmas.{index_stated}
use Rattle.repo_holdings.specs.declared.holdings.stored_parent.StoredParent.{StoredParent}
use Rattle.repo_holdings.specs.Records.{Packet}
use Rattle.repo_holdings.specs.Listed.{stored_at, listed_shape}
use Rattle.repo_holdings.specs.StoredParents.{index_at, IsListedBy}
use Rattle.repo_holdings.proofs.AskedLemmas.{listing_sized}

-- an index packet lists as many digests as it has to
index_long : (octets : List ℕ) (count : ℕ) (digests : List (List ℕ)) → index_in octets count ≡ Some digests
    → length digests ≡ count
index_long octets count digests h = go (content_in octets) h where
  go : (o : Option (List ℕ)) → option_and_then (λ content. index_of content count) o ≡ Some digests
      → length digests ≡ count
  go None p = absurd cc
  go (Some content) p = (index_stated content count digests p).1

stored_long : (packets : List Packet) (pair : Pair) (segments x : ℕ) (digests : List (List ℕ))
    → index_at packets pair segments x ≡ Some digests → length digests ≡ listed_in segments (x - 1)
stored_long packets pair segments x digests h = go (stored_at packets pair x) h where
  go : (o : Option (List ℕ))
      → option_and_then (λ octets. index_in octets (listed_in segments (x - 1))) o ≡ Some digests
      → length digests ≡ listed_in segments (x - 1)
  go None p = absurd cc
  go (Some octets) p = index_long octets (listed_in segments (x - 1)) digests p

-- what is listed by the record itself, after index packets, is listed where there are none
no_index : (shape : Shape) (x : ℕ) → shape.index < x → parent_number shape x ≡ 0 → shape.index ≡ 0
no_index shape x above h = go (shape.index == 0) refl where
  go : (b : Bool) → (shape.index == 0) ≡ b → shape.index ≡ 0
  go true p = eqb-true shape.index 0 p
  go false p =
      let by : parent_number shape x ≡ 1 + (x - shape.index - 1) / most_listed =
      ap (λ (b : Bool). cond (b || nat_le x shape.index) 0 (1 + (x - shape.index - 1) / most_listed)) p
      ∙ ap (λ (b : Bool). cond b 0 (1 + (x - shape.index - 1) / most_listed)) (lt-leb x shape.index above) in
      absurd (omega (arith, by, h))

module _ (packets : List Packet) (t : Part) (r : StoredParent) (by : IsListedBy packets t r)
    (above : r.shape.index < t.part) where
  abbrev pub k : ℕ
  k = r.part.part

  abbrev pub i : ℕ
  i = t.part - r.shape.index - 1

  sized : IsShape r.shape
  sized =
      subst IsShape (sym by.stored.shape)
      (listing_sized (stored_at packets (pair_of r.part) 0) r.listing by.stored.listed)

  is_parent : parent_number r.shape t.part ≡ k
  is_parent = ap (λ (p : Part). p.part) (sym by.lists)

  same_pair : pair_of r.part ≡ pair_of t
  same_pair = ap pair_of by.lists

  parent_listed : parent_number (listed_shape r.listing) t.part ≡ k
  parent_listed = ap (λ (s : Shape). parent_number s t.part) (sym by.stored.shape) ∙ is_parent

  -- in an index packet
  module _ (digests : List (List ℕ)) (read : r.index ≡ Some digests) where
    index_kept : (b : Bool) → (k == 0) ≡ b → index_at packets (pair_of r.part) r.listing.segments k ≡ Some digests
    index_kept true p = absurd (none_some (sym (by.stored.index
        ∙ ap (λ (b : Bool). cond b None (index_at packets (pair_of r.part) r.listing.segments k)) p) ∙ read)) where
          none_some : let n : Option (List (List ℕ)) = None in n ≡ Some digests → ⊥
          none_some h = cc
    index_kept false p =
        sym (by.stored.index
        ∙ ap (λ (b : Bool). cond b None (index_at packets (pair_of r.part) r.listing.segments k)) p)
        ∙ read

    is_index : (k == 0) ≡ false
    is_index = go (k == 0) refl where
      go : (b : Bool) → (k == 0) ≡ b → b ≡ false
      go true p = absurd (none_some (sym (by.stored.index
          ∙ ap (λ (b : Bool). cond b None (index_at packets (pair_of r.part) r.listing.segments k)) p) ∙ read)) where
            none_some : let n : Option (List (List ℕ)) = None in n ≡ Some digests → ⊥
            none_some h = cc
      go false p = refl

    some : 0 < k
    some = omega (arith, eqb-false k 0 is_index)

    low : k ≤ r.shape.index
    low =
        subst (λ (n : ℕ). n ≤ r.shape.index) is_parent ((lists_in_turn r.shape sized).listed t.part by.counted)

    around : (most_listed * (k - 1) ≤ i) × (i < most_listed * k)
    around =
        let at : r.shape.index + 1 + i ≡ t.part = omega (arith, above) in
        ((lists_in_turn r.shape sized).by_index k i (omega (arith, some)) low).0
        (ap (parent_number r.shape) at ∙ is_parent)

    pub index_place : i - (k - 1) * most_listed < length digests
    index_place =
        let long = stored_long packets (pair_of r.part) r.listing.segments k digests (index_kept (k == 0) refl) in
        let segments : r.shape.segments ≡ r.listing.segments = ap (λ (s : Shape). s.segments) by.stored.shape in
        omega (arith, long, around.0, around.1, by.counted, above, segments)

  -- in the record
  module _ (read : r.index ≡ None) where
    none : k ≡ 0
    none = go (k == 0) refl where
      go : (b : Bool) → (k == 0) ≡ b → k ≡ 0
      go true p = eqb-true k 0 p
      go false p =
          let there = subst (λ (o : Option (List (List ℕ))). IsSome o) read
          (by.stored.read (omega (arith, eqb-false k 0 p))) in
          absurd (true≢false (sym there))

    without : r.shape.index ≡ 0
    without = no_index r.shape t.part above (is_parent ∙ none)

    pub record_place : IsListing r.listing → i < length r.listing.digests
    record_place listing =
        let segments : r.shape.segments ≡ r.listing.segments = ap (λ (s : Shape). s.segments) by.stored.shape in
        let index = ap (λ (s : Shape). s.index) (sym by.stored.shape) ∙ without in
        let count : count_listed r.listing.segments ≡ r.listing.segments =
        ap (λ (b : Bool). cond b (index_packets r.listing.segments) r.listing.segments)
        (ap (λ (n : ℕ). not (n == 0)) index) in
        omega (arith, listing.count, count, by.counted, above, segments, without)

-- what is at a place that there is
pub place_there : (digests : List (List ℕ)) (i : ℕ) → i < length digests → IsSome (slice_get digests i)
place_there digests i low =
    subst (λ (o : Option (List ℕ)). IsSome o) (sym (slice_get-get_or digests i [] low)) refl
