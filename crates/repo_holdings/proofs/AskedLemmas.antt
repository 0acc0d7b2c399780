-- What a part that a member asks for says of what is stored.
use Rattle.std.proofs.Common.{◌≡◌, inl, inr, ℕ, Bool, List, ◌-◌, ◌≤◌, ◌<◌, true, false, cond, ◌&&◌, ◌==◌}
use Rattle.std.proofs.Common.{refl, sym, ap, ◌∙◌, subst, Option, Some, None, option_map, is_some, length, arith}
use Rattle.std.specs.Prelude.{nat_le, slice_index, IsSome, IfSome}
use Rattle.std.specs.Option.{option_and_then}
use Rattle.std.proofs.lemmas.Bool.{true≢false, and_parts, or_cases, leb-true, le-leb, cases_lt, eqb-false, eqb-true}
use Rattle.std.proofs.lemmas.Bool.{false_from_ne_true}
use Rattle.std.proofs.lemmas.List.{get_or_past}
use Rattle.repo_plan.specs.declared.part.Part.{Part}
use Rattle.repo_plan.specs.declared.shape.Shape.{Shape}
use Rattle.sorted_lists.specs.SortedList.{contains}
use Rattle.repo_plan.specs.Parts.{part_cmp, pair_of, part_of, parent, parent_number, last_part, shape_of_segments}
use Rattle.repo_plan.specs.Parts.{IsShape}
use Rattle.repo_plan.proofs.Parents.{lists_in_turn}
use Rattle.repo_plan.specs.Plan.{PlanState, is_listed_part, may_be_asked_for, knows, shape_of}
use Rattle.repo_object.specs.Publication.{Listed, RecordSays, shape_stated}
use Rattle.repo_object.specs.Publication.RecordSays.{Lists, WithdrawsNumber}
use Rattle.repo_object.specs.Records.{record_of}
use Rattle.repo_object.specs.Verdict.{content_in, stated_in, index_in}
use Rattle.repo_object.proofs.RecordLemmas.{listing_stated}
use Rattle.repo_object.specs.Wants.{listed_in}
use Rattle.repo_holdings.specs.Records.{Packet}
use Rattle.repo_holdings.specs.Listed.{object_stated, listing_in, stored_at, stated_at, listing_at, listed_shape}
use Rattle.repo_holdings.specs.StoredParents.{index_at, index_count, lists_at, ListsAsMany, HasParent}
use Rattle.repo_holdings.specs.declared.record_summary.RecordSummary.{RecordSummary}
use Rattle.repo_holdings.specs.Gaining.{PlanFits, summary_of, summary_shape, shape_in_summary}
use Rattle.repo_holdings.proofs.GainingLemmas.{shape_stored, shape_listed, held_value, listing_says}

-- ---- what records tell

-- what a record says of parts is a shape that a record may tell
pub stated_sized : (octets : List ℕ) (says : RecordSays) → stated_in octets ≡ Some says → IsShape (shape_stated says)
stated_sized octets (WithdrawsNumber seq) h = record { index = refl; segments = omega (arith) }
stated_sized octets (Lists l) h = go (content_in octets) h where
  go : (o : Option (List ℕ)) → option_and_then record_of o ≡ Some (Lists l) → IsShape (listed_shape l)
  go None p = absurd cc
  go (Some content) p =
      let is = listing_stated content l p in record { index = refl; segments = omega (arith, is.few) }

pub listing_sized : (o : Option (List ℕ)) (l : Listed) → option_and_then listing_in o ≡ Some l
    → IsShape (listed_shape l)
listing_sized None l h = absurd cc
listing_sized (Some octets) l h = stated_sized octets (Lists l) (listing_says (Some octets) l h)

-- the summary of a record that has it
pub shape_sized : (octets : List ℕ) (summary : RecordSummary) → option_map summary_of (stated_in octets) ≡ Some summary
    → IsShape (summary_shape summary)
shape_sized octets summary h = go (stated_in octets) refl h where
  go : (o : Option RecordSays) → stated_in octets ≡ o → option_map summary_of o ≡ Some summary
      → IsShape (summary_shape summary)
  go None p t = absurd cc
  go (Some (Lists l)) p t =
      let is : summary_of (Lists l) ≡ summary = cc in
      subst (λ (x : RecordSummary). IsShape (summary_shape x)) is (stated_sized octets (Lists l) p)
  go (Some (WithdrawsNumber seq)) p t =
      let is : summary_of (WithdrawsNumber seq) ≡ summary = cc in
      subst (λ (x : RecordSummary). IsShape (summary_shape x)) is (stated_sized octets (WithdrawsNumber seq) p)

-- which parts the publication of a part has, as its packet tells
pub stated_shape_sized : (t : Part) (octets : List ℕ) → IfSome (shape_in_summary t octets) IsShape
stated_shape_sized t octets = go (t.part == 0) where
  sized : (o : Option RecordSummary) → option_map summary_of (stated_in octets) ≡ o
      → IfSome (option_map summary_shape o) IsShape
  sized None h = tt
  sized (Some summary) h = shape_sized octets summary h

  go : (b : Bool) → IfSome (option_map summary_shape (cond b (option_map summary_of (stated_in octets)) None)) IsShape
  go true = sized (option_map summary_of (stated_in octets)) refl
  go false = tt

-- ---- what lists a part that is asked for

-- what lists a part that is asked for is stored
pub asked_segment : (plan : PlanState) (packets : List Packet) (t : Part) → PlanFits plan packets
    → may_be_asked_for plan t ≡ true → (t.part == 0) ≡ false → HasParent packets t
asked_segment plan packets t tied asked following = go (stored_at packets (pair_of t) 0) refl where
  summary : shape_of plan (pair_of t) ≡ option_map shape_stated (stated_at packets (pair_of t))
  summary = shape_stored plan packets (pair_of t) tied

  can : is_listed_part plan.held (shape_of plan (pair_of t)) t ≡ true
  can = (and_parts (knows plan (pair_of t)) (is_listed_part plan.held (shape_of plan (pair_of t)) t) asked).1

  above : 0 < t.part
  above = omega (arith, eqb-false t.part 0 following)

  -- the part is counted, and what lists it is held
  counts : (shape : Shape) → shape_of plan (pair_of t) ≡ Some shape
      → (nat_le t.part (last_part shape) && contains part_cmp plan.held (parent shape t)) ≡ true
  counts shape p =
      let some : is_listed_part plan.held (Some shape) t ≡ true =
      subst (λ (s : Option Shape). is_listed_part plan.held s t ≡ true) p can in
      elim (or_cases (t.part == 0) (nat_le t.part (last_part shape) && contains part_cmp plan.held (parent shape t))
      some) [
        | inl zero ↦ absurd (true≢false (sym zero ∙ following))
        | inr both ↦ both
      ]

  of_listing : (l : Listed) → listing_at packets (pair_of t) ≡ Some l → HasParent packets t
  of_listing l p =
      let shape : Shape = listed_shape l in
      let both = counts shape (shape_listed plan packets (pair_of t) tied l p) in
      let two = and_parts (nat_le t.part (last_part shape)) (contains part_cmp plan.held (parent shape t)) both in
      let counted : t.part ≤ last_part shape = leb-true t.part (last_part shape) two.0 in
      record {
        following = above;
        listing = l;
        listed = p;
        counted = counted;
        index = λ k. index_there l p counted two.1 k;
      } where
        index_there : (l : Listed) → listing_at packets (pair_of t) ≡ Some l → t.part ≤ last_part (listed_shape l)
            → contains part_cmp plan.held (parent (listed_shape l) t) ≡ true
            → 0 < parent_number (listed_shape l) t.part
            → IsSome (index_at packets (pair_of t) l.segments (parent_number (listed_shape l) t.part))
        index_there l p counted held some =
            there (stored_at packets (pair_of t) k) refl
            (sym (held_value plan packets (pair_of t) tied (part_of (pair_of t) k)) ∙ held) where
              k : ℕ
              k = parent_number (listed_shape l) t.part

              count : lists_at packets (part_of (pair_of t) k) ≡ Some (listed_in l.segments (k - 1))
              count =
                  ap (option_and_then (index_count k)) p
                  ∙ ap (λ (b : Bool). cond b None
                  (cond (nat_le k (listed_shape l).index) (Some (listed_in l.segments (k - 1))) None))
                  (false_from_ne_true (k == 0) (λ e. absurd (omega (arith, eqb-true k 0 e, some))))
                  ∙ ap (λ (b : Bool). cond b (Some (listed_in l.segments (k - 1))) None)
                  (le-leb k (listed_shape l).index
                  ((lists_in_turn (listed_shape l) (listing_sized (stored_at packets (pair_of t) 0) l p)).listed t.part
                  counted))

              there : (o : Option (List ℕ)) → stored_at packets (pair_of t) k ≡ o → is_some o ≡ true
                  → IsSome (option_and_then (λ octets. index_in octets (listed_in l.segments (k - 1))) o)
              there None q h = absurd (true≢false (sym h))
              there (Some octets) q h =
                  subst (ListsAsMany octets) count (tied.indexed (part_of (pair_of t) k) octets q)

  go : (o : Option (List ℕ)) → stored_at packets (pair_of t) 0 ≡ o → HasParent packets t
  go None p =
      let none : is_listed_part plan.held None t ≡ true =
      subst (λ (s : Option Shape). is_listed_part plan.held s t ≡ true)
      (summary ∙ ap (λ (o : Option (List ℕ)). option_map shape_stated (option_and_then stated_in o)) p) can in
      absurd (true≢false (sym none ∙ following))
  go (Some octets) p = says (stated_in octets) refl where
    says : (o : Option RecordSays) → stated_in octets ≡ o → HasParent packets t
    says None q =
        let none : is_listed_part plan.held None t ≡ true =
        subst (λ (s : Option Shape). is_listed_part plan.held s t ≡ true)
        (summary ∙ ap (λ (o : Option (List ℕ)). option_map shape_stated (option_and_then stated_in o)) p
        ∙ ap (option_map shape_stated) q) can in
        absurd (true≢false (sym none ∙ following))
    says (Some (Lists l)) q =
        of_listing l (ap (option_and_then listing_in) p ∙ ap (option_and_then object_stated) q)
    says (Some (WithdrawsNumber seq)) q =
        let shape : shape_of plan (pair_of t) ≡ Some (shape_of_segments 0) =
        summary ∙ ap (λ (o : Option (List ℕ)). option_map shape_stated (option_and_then stated_in o)) p
        ∙ ap (option_map shape_stated) q in
        let counted : t.part ≤ 0 =
        leb-true t.part 0
        (and_parts (nat_le t.part 0) (contains part_cmp plan.held (parent (shape_of_segments 0) t))
        (counts (shape_of_segments 0) shape)).0 in
        absurd (omega (arith, counted, above))

-- the publisher of a part that is asked for is a member
pub asked_member : (plan : PlanState) (t : Part) → may_be_asked_for plan t ≡ true → t.publisher < length plan.known
asked_member plan t asked =
    let known = (and_parts (knows plan (pair_of t)) (is_listed_part plan.held (shape_of plan (pair_of t)) t) asked).0 in
    let both = and_parts (nat_le 1 t.seq) (nat_le t.seq (slice_index plan.known t.publisher)) known in
    let low = leb-true 1 t.seq both.0 in
    let high = leb-true t.seq (slice_index plan.known t.publisher) both.1 in
    elim (cases_lt t.publisher (length plan.known)) [
      | inl inside ↦ inside
      | inr past ↦ absurd (omega (arith, low, high, get_or_past plan.known t.publisher 0 past))
    ]
