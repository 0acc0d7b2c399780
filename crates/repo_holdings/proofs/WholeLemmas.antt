-- What becomes whole by one part more, and its entry.
use Rattle.std.proofs.Common.{◌≡◌, ℕ, Bool, true, false, cond, ◌==◌, List, refl, sym, ap, ◌∙◌, Option, Some, None}
use Rattle.std.proofs.Common.{is_some, length, subst}
use Rattle.std.specs.Prelude.{IsSome, IsSomeAnd}
use Rattle.std.proofs.lemmas.Bool.{true≢false, eqb-true}
use Rattle.std.specs.Option.{option_and_then}
use Rattle.sha2.specs.Sha256.{sha256}
use Rattle.repo_plan.specs.declared.part.Part.{Part}
use Rattle.repo_plan.specs.declared.shape.Shape.{Shape}
use Rattle.sorted_lists.specs.SortedList.{contains, value_of}
use Rattle.repo_plan.specs.Parts.{Pair, part_cmp, pair_of, part_of}
use Rattle.repo_plan.specs.Plan.{PlanState, holds, may_be_asked_for, is_complete, shape_of}
use Rattle.repo_plan.proofs.Whole.{not_complete}
use Rattle.repo_object.specs.Publication.{Listed}
use Rattle.repo_holdings.specs.Records.{Packet}
use Rattle.repo_holdings.specs.Listed.{listing_in, listing_at, listed_shape, contents_joined, whole_at, entry_listed}
use Rattle.repo_holdings.specs.Listed.{entry_of_listing}
use Rattle.repo_holdings.specs.Gaining.{PlanFits}
use Rattle.repo_holdings.proofs.GainingLemmas.{contains-value, shape_listed, complete_stored, complete_whole}
use Rattle.repo_holdings.proofs.AskedLemmas.{asked_segment}

-- what is there, where something is
pub some_of : {A : Type 0} {P : A → Type 0} {C : Type 0} (o : Option A) → IsSomeAnd o P
    → ((x : A) → o ≡ Some x → P x → C) → C
some_of None h f = absurd h
some_of (Some x) h f = f x refl h

module _ (plan : PlanState) (packets : List Packet) (pair : Pair) (tied : PlanFits plan packets) where
  whole_of_listed : (l : Listed) → listing_at packets pair ≡ Some l
      → whole_at packets pair ≡ cond (is_complete plan pair) (Some (entry_of_listing packets pair l)) None
  whole_of_listed l h =
      ap (option_and_then (entry_listed packets pair)) h
      ∙ ap (λ (b : Bool). cond b (Some (entry_of_listing packets pair l)) None)
      (sym (complete_stored plan packets pair tied l h))

  -- the entry of an object that is complete, by its shape and its contents
  pub listed_whole : (l : Listed) (shape : Shape) (octets : ℕ) (digest : List ℕ) → listing_at packets pair ≡ Some l
      → is_complete plan pair ≡ true → shape_of plan pair ≡ Some shape
      → octets ≡ length (contents_joined packets pair shape) → digest ≡ sha256 (contents_joined packets pair shape)
      → whole_at packets pair
      ≡ Some (record {
        publisher = pair.0;
        seq = pair.1;
        name = l.name;
        segments = shape.segments;
        octets = octets;
        digest = digest;
      })
  listed_whole l shape octets digest listed complete shaped long hashed =
      let both : Some shape ≡ Some (listed_shape l) = sym shaped ∙ shape_listed plan packets pair tied l listed in
      let same : shape ≡ listed_shape l = cc in
      whole_of_listed l listed
      ∙ ap (λ (b : Bool). cond b (Some (entry_of_listing packets pair l)) None) complete
      ∙ rw (long, hashed, same) refl

  pub listed_not : is_complete plan pair ≡ false → whole_at packets pair ≡ None
  listed_not incomplete = go (listing_at packets pair) refl where
    go : (o : Option Listed) → listing_at packets pair ≡ o → whole_at packets pair ≡ None
    go None p = ap (option_and_then (entry_listed packets pair)) p
    go (Some l) p =
        whole_of_listed l p ∙ ap (λ (b : Bool). cond b (Some (entry_of_listing packets pair l)) None) incomplete

  pub listed_complete : (l : Listed) → listing_at packets pair ≡ Some l → is_complete plan pair ≡ true
      → whole_at packets pair ≡ None → ⊥
  listed_complete l h complete none =
      true≢false (sym complete ∙ sym (complete_whole plan packets pair tied l h) ∙ ap is_some none)

  pub some_shape : (P : Listed → Type 0) → IsSomeAnd (listing_at packets pair) P → IsSome (shape_of plan pair)
  some_shape P h =
      some_of (listing_at packets pair) h
      (λ l listed is. subst (λ (o : Option Shape). IsSome o) (sym (shape_listed plan packets pair tied l listed)) refl)

-- a publication of which an asked part is missing is not stored whole
pub missing_unlisted : (plan : PlanState) (packets : List Packet) (t : Part) → PlanFits plan packets
    → may_be_asked_for plan t ≡ true → holds plan t ≡ false → whole_at packets (pair_of t) ≡ None
missing_unlisted plan packets t tied asked missing = go (t.part == 0) refl where
  nothing : value_of part_cmp packets t ≡ None
  nothing =
      none (value_of part_cmp packets t)
      (sym (contains-value packets t) ∙ ap (λ (ts : List Part). contains part_cmp ts t) (sym tied.held) ∙ missing) where
        none : (o : Option (List ℕ)) → is_some o ≡ false → o ≡ None
        none None h = refl
        none (Some x) h = absurd (true≢false h)

  go : (b : Bool) → (t.part == 0) ≡ b → whole_at packets (pair_of t) ≡ None
  go true p =
      let is : part_of (pair_of t) 0 ≡ t = ap (part_of (pair_of t)) (sym (eqb-true t.part 0 p)) in
      ap (λ (o : Option (List ℕ)). option_and_then (entry_listed packets (pair_of t)) (option_and_then listing_in o))
      (ap (value_of part_cmp packets) is ∙ nothing)
  go false p =
      let segment = asked_segment plan packets t tied asked p in
      listed_not plan packets (pair_of t) tied
      (not_complete plan (pair_of t) (listed_shape segment.listing)
      (shape_listed plan packets (pair_of t) tied segment.listing segment.listed) t.part segment.counted missing)
