-- How many parts a plan holds and wants: those of one publication, and that they are few enough.
use Rattle.std.proofs.Common.{◌≡◌, inl, inr, ℕ, suc, zero, ◌+◌, ◌-◌, ◌*◌, ◌/◌, ◌≤◌, ◌<◌, ◌^◌, max, Bool, true, false}
use Rattle.std.proofs.Common.{not, ◌&&◌, cond, List, [], ◌∷◌, length, get_or, refl, sym, ap, ◌∙◌, subst, arith, Option}
use Rattle.std.proofs.Common.{Some, None, length-append}
use Rattle.std.proofs.lemmas.Bool.{true≢false, and_parts, and_from, or_cases, or_parts, false_from_ne_true, cases_eq}
use Rattle.std.proofs.lemmas.List.{length-map, get_or-set_same, get_or-set_other}
use Rattle.std.proofs.lemmas.List.Filters.{length-filter_both}
use Rattle.std.specs.Cmp.{both_ways}
use Rattle.std.specs.Prelude.{nat_le, ◌==◌, is_some, IfSome, slice_index, replicate}
use Rattle.std.specs.List.{filter, flat_map}
use Rattle.std.specs.Ordering.{eq_by_cmp, nat_cmp}
use Rattle.repo_plan.specs.declared.part.Part.{Part}
use Rattle.sorted_lists.specs.SortedList.{Rises, contains}
use Rattle.sorted_lists.specs.Range.{numbers_from}
use Rattle.sorted_lists.proofs.Ranges.{length-numbers}
use Rattle.sorted_lists.proofs.SameSets.{same_sets}
use Rattle.sorted_lists.proofs.Sets.{In, in_contains, contains_in, contains-filter, rises_filter, eq_same, eq_itself}
use Rattle.repo_plan.specs.Counts.{how_many}
use Rattle.repo_plan.specs.Parts.{Pair, Shape, IsShape, part_cmp, pair_cmp, pair_of, part_of, last_part}
use Rattle.repo_plan.specs.Parts.{last_known_part, parent_number}
use Rattle.repo_plan.specs.Plan.{PlanState, knows, holds, hides, shape_of, is_listed_part, may_be_asked_for, is_wanted}
use Rattle.repo_plan.specs.Plan.{is_in}
use Rattle.repo_plan.specs.Plan.{is_done, is_complete, pairs_of, pairs_from, parts_known, known_parts, wanted, raises}
use Rattle.repo_plan.specs.Plan.{initial_plan}
use Rattle.repo_plan.proofs.Recounted.{more_known}
use Rattle.repo_plan.proofs.HeldMore.{held_one_more, one_before, more_listed}
use Rattle.repo_plan.specs.Sound.{PlanIsSound, CanBeHeld}
use Rattle.repo_plan.proofs.Orders.{exact_parts, exact_pairs}
use Rattle.repo_plan.proofs.Counts.{made_of, nothing, every, parted, same_many}
use Rattle.repo_plan.proofs.Known.{from_parts_of, in_parts_of, counted, asked_known, wanted_is_asked, and_whole}
use Rattle.repo_plan.proofs.Known.{contains-wanted, wanted_rises, known_parts_rise, rises_numbers, flat_append}
use Rattle.repo_plan.proofs.Whole.{each_all, each_held}
use Rattle.repo_plan.proofs.Views.{complete_is, gap_open}
use Rattle.repo_plan.specs.declared.plan.Plan.TheInside.{Inside}
use Rattle.repo_plan.specs.PlanFields.{holdings, IsPlan}
use Rattle.sorted_lists.specs.Runs.{has_number}
use Rattle.repo_plan.proofs.Changes.{IsWanted, wanted_parts, wanted_from, with_part, sound_part, sound_raises}

-- ---- the parts of one publication

module _ (p : PlanState) (pair : Pair) (xs : List Part) (r : Rises part_cmp xs) (f : Part → Bool)
    (has : (u : Part) → contains part_cmp xs u ≡ f u)
    (asked : (u : Part) → f u ≡ true → may_be_asked_for p u ≡ true) where
  to_known : (u : Part) → (is_in pair u && contains part_cmp xs u) ≡ true
      → (f u && contains part_cmp (parts_known p pair) u) ≡ true
  to_known u h =
      let b : (is_in pair u ≡ true) × (contains part_cmp xs u ≡ true) = and_parts (is_in pair u) _ h in
      let e : pair ≡ pair_of u = eq_same exact_pairs pair (pair_of u) b.0 in
      let fu : f u ≡ true = sym (has u) ∙ b.1 in
      let a : (knows p (pair_of u) ≡ true) × (is_listed_part p.held (shape_of p (pair_of u)) u ≡ true) =
      and_parts (knows p (pair_of u)) _ (asked u fu) in
      and_from (f u) _ fu
      (contains_in exact_parts (parts_known p pair) u
      (subst (λ (q : Pair). In u (parts_known p q)) (sym e)
      (in_parts_of (last_known_part (shape_of p (pair_of u))) u (counted p (shape_of p (pair_of u)) u a.1))))

  from_known : (u : Part) → (f u && contains part_cmp (parts_known p pair) u) ≡ true
      → (is_in pair u && contains part_cmp xs u) ≡ true
  from_known u h =
      let b : (f u ≡ true) × (contains part_cmp (parts_known p pair) u ≡ true) = and_parts (f u) _ h in
      let q : (pair_of u ≡ pair) × (u.part ≤ last_known_part (shape_of p pair)) =
      from_parts_of pair (last_known_part (shape_of p pair)) u (in_contains exact_parts (parts_known p pair) u b.1) in
      and_from (is_in pair u) _ (ap (eq_by_cmp pair_cmp pair) q.0 ∙ eq_itself exact_pairs pair) (has u ∙ b.0)

  -- those of a set that are of the publication are among its known ones
  there : filter (is_in pair) xs ≡ filter f (parts_known p pair)
  there =
      same_sets exact_parts (filter (is_in pair) xs) (filter f (parts_known p pair))
      (rises_filter exact_parts.total (is_in pair) xs r)
      (rises_filter exact_parts.total f (parts_known p pair)
      (rises_numbers p pair 0 (last_known_part (shape_of p pair) + 1))) (λ u.
      contains-filter exact_parts (is_in pair) xs u
      ∙ both_ways (is_in pair u && contains part_cmp xs u) (f u && contains part_cmp (parts_known p pair) u)
      (to_known u) (from_known u)
      ∙ sym (contains-filter exact_parts f (parts_known p pair) u))

  pub many_there : length (filter (is_in pair) xs)
      ≡ how_many (λ x. f (part_of pair x)) 0 (last_known_part (shape_of p pair) + 1)
  many_there =
      ap length there ∙ made_of (part_of pair) f (numbers_from 0 (last_known_part (shape_of p pair) + 1))

module _ (p : PlanState) (s : PlanIsSound p) where
  pub held_there : (pair : Pair) → length (filter (is_in pair) p.held)
      ≡ how_many (λ x. holds p (part_of pair x)) 0 (last_known_part (shape_of p pair) + 1)
  held_there pair = many_there p pair p.held s.in_order.held (holds p) (λ u. refl) (λ u h. (s.held u h).asked)

  pub wanted_there : (pair : Pair) → length (filter (is_in pair) (wanted p))
      ≡ how_many (λ x. is_wanted p (part_of pair x)) 0 (last_known_part (shape_of p pair) + 1)
  wanted_there pair =
      many_there p pair (wanted p) (wanted_rises p) (is_wanted p) (contains-wanted p) (wanted_is_asked p)

  -- ---- they are few enough

  few_known_parts : (o : Option Shape) → IfSome o IsShape → last_known_part o ≤ 20100
  few_known_parts None i = omega arith
  few_known_parts (Some n) i = few_index (nat_le n.segments 200) i.index where
    few_index : (b : Bool) → n.index ≡ cond b 0 ((n.segments + 200 - 1) / 200) → last_part n ≤ 20100
    few_index true e = omega (arith, e, i.segments)
    few_index false e = omega (arith, e, i.segments)

  sized : (pair : Pair) (o : Option Shape) → shape_of p pair ≡ o → IfSome o IsShape
  sized pair None e = tt
  sized pair (Some n) e = s.sized pair n e

  few_of : (pairs : List Pair) → length (flat_map (parts_known p) pairs) ≤ 32768 * length pairs
  few_of [] = omega arith
  few_of (x ∷ xs) =
      let here : length (parts_known p x) ≡ last_known_part (shape_of p x) + 1 =
      length-map (numbers_from 0 (last_known_part (shape_of p x) + 1)) (part_of x)
      ∙ length-numbers 0 (last_known_part (shape_of p x) + 1) in
      omega (
        arith,
        length-append (parts_known p x) (flat_map (parts_known p) xs),
        here,
        few_known_parts (shape_of p x) (sized x (shape_of p x) refl),
        few_of xs,
      )

  length_pairs : (publisher first n : ℕ) → length (pairs_of publisher first n) ≡ n
  length_pairs publisher first n =
      length-map (numbers_from first n) (λ (seq : ℕ). let q : Pair = (publisher, seq) in q) ∙ length-numbers first n

  few_one : (k v : ℕ) (vs : List ℕ) (rest : ℕ) → v < 65536
      → length (flat_map (parts_known p) (pairs_from (k + 1) vs)) ≤ rest
      → length (flat_map (parts_known p) (pairs_from k (v ∷ vs))) ≤ 32768 * v + rest
  few_one k v vs rest fits h =
      omega (
        arith,
        h,
        ap length (flat_append p (pairs_of k 1 v) (pairs_from (k + 1) vs)),
        length-append (flat_map (parts_known p) (pairs_of k 1 v)) (flat_map (parts_known p) (pairs_from (k + 1) vs)),
        few_of (pairs_of k 1 v),
        length_pairs k 1 v,
      )

  few_from : (m k : ℕ) (lasts : List ℕ) → ((i : ℕ) → get_or lasts i 0 < 65536)
      → ((i : ℕ) → 0 < get_or lasts i 0 → i < m)
      → length (flat_map (parts_known p) (pairs_from k lasts)) ≤ 2147483648 * m
  few_from m k [] fits some = omega arith
  few_from zero k (v ∷ vs) fits some =
      let more = few_from zero (k + 1) vs (λ i. fits (suc i)) (λ i h. omega (arith, some (suc i) h)) in
      let none : v ≡ 0 = go v (some 0) in
      omega (arith, none, few_one k v vs (2147483648 * zero) (fits 0) more) where
        go : (n : ℕ) → (0 < n → 0 < zero) → n ≡ 0
        go zero h = refl
        go (suc n) h = absurd (omega (arith, h (omega arith)))
  few_from (suc m) k (v ∷ vs) fits some =
      let more = few_from m (k + 1) vs (λ i. fits (suc i)) (λ i h. omega (arith, some (suc i) h)) in
      omega (arith, fits 0, few_one k v vs (2147483648 * m) (fits 0) more)

  few_known : ((q : ℕ) → slice_index p.known q < 2 ^ 16) → length (known_parts p) < 2 ^ 64
  few_known fits =
      let few = few_from (2 ^ 32) 0 p.known (λ i. omega (arith, fits i)) s.publishers in
      omega (arith, few)

  few_filter : (f : Part → Bool) (xs : List Part) → length (filter f xs) ≤ length xs
  few_filter f xs = omega (arith, length-filter_both f (λ x. not (f x)) (λ x. refl) xs)

  pub few_wanted : ((q : ℕ) → slice_index p.known q < 2 ^ 16) → length (wanted p) < 2 ^ 64
  few_wanted fits = omega (arith, few_known fits, few_filter (is_wanted p) (known_parts p))

  held_known : p.held ≡ filter (holds p) (known_parts p)
  held_known =
      same_sets exact_parts p.held (filter (holds p) (known_parts p)) s.in_order.held
      (rises_filter exact_parts.total (holds p) (known_parts p) (known_parts_rise p)) (λ u.
      sym (contains-filter exact_parts (holds p) (known_parts p) u
      ∙ and_whole p (holds p u) _
      (λ h. contains_in exact_parts (known_parts p) u (asked_known p u (s.held u h).asked))))

  pub few_held : ((q : ℕ) → slice_index p.known q < 2 ^ 16) → length p.held < 2 ^ 64
  few_held fits =
      omega (arith, few_known fits, ap length held_known, few_filter (holds p) (known_parts p))

-- ---- of a publication, by the fields of a plan

module _ (p : Inside) (i : IsPlan p) (pair : Pair) where
  abbrev now : PlanState
  now = holdings p

  pub none_held : shape_of now pair ≡ None → length (filter (is_in pair) now.held) ≡ 0
  none_held e =
      held_there now i.sound pair
      ∙ nothing (λ x. holds now (part_of pair x)) 0 (last_known_part (shape_of now pair) + 1) (λ x.
      false_from_ne_true (holds now (part_of pair x)) (λ h.
      true≢false
      (sym (i.sound.held (part_of pair x) h).with_record ∙ sym (i.sound.shapes pair) ∙ ap is_some e)))

  pub none_unknown : knows now pair ≡ false → length (filter (is_in pair) (wanted now)) ≡ 0
  none_unknown off =
      wanted_there now i.sound pair
      ∙ nothing (λ x. is_wanted now (part_of pair x)) 0 (last_known_part (shape_of now pair) + 1) (λ x.
      false_from_ne_true (is_wanted now (part_of pair x)) (λ h.
      true≢false
      (sym (and_parts (knows now pair) _ (wanted_is_asked now (part_of pair x) h)).0 ∙ off)))

  pub none_done : has_number nat_cmp p.done pair ≡ true → length (filter (is_in pair) (wanted now)) ≡ 0
  none_done done =
      wanted_there now i.sound pair
      ∙ nothing (λ x. is_wanted now (part_of pair x)) 0 (last_known_part (shape_of now pair) + 1) (λ x.
      false_from_ne_true (is_wanted now (part_of pair x)) (λ h.
      let w : IsWanted now (part_of pair x) = wanted_parts now (part_of pair x) h in
      elim (or_cases (hides now pair) (is_complete now pair) (sym (i.all_done pair) ∙ done)) [
        | inl hid ↦ true≢false (sym hid ∙ w.not_hidden)
        | inr whole ↦
            true≢false
            (sym (each_all (holds now) (parts_known now pair) whole (part_of pair x)
            (in_parts_of (last_known_part (shape_of now pair)) (part_of pair x)
            (counted now (shape_of now pair) (part_of pair x) (and_parts (knows now pair) _ w.asked).1)))
            ∙ w.not_held)
      ]))

  module _ (known : knows now pair ≡ true) (undone : has_number nat_cmp p.done pair ≡ false) where
    not_hidden : hides now pair ≡ false
    not_hidden = (or_parts (hides now pair) (is_complete now pair) (sym (i.all_done pair) ∙ undone)).0

    pub one_wanted : shape_of now pair ≡ None → length (filter (is_in pair) (wanted now)) ≡ 1
    one_wanted none =
        let here : is_wanted now (part_of pair 0) ≡ true =
        wanted_from now (part_of pair 0) (record {
          asked =
              and_from (knows now pair) _ known
              (ap (λ (o : Option Shape). is_listed_part now.held o (part_of pair 0)) none);
          not_held = sym (i.sound.shapes pair) ∙ ap is_some none;
          not_hidden = not_hidden;
        }) in
        wanted_there now i.sound pair
        ∙ ap (λ (o : Option Shape). how_many (λ x. is_wanted now (part_of pair x)) 0 (last_known_part o + 1)) none
        ∙ every (λ x. is_wanted now (part_of pair x)) 0 1 (λ x a b.
        let z : x ≡ 0 = omega (arith, b) in
        ap (λ (y : ℕ). is_wanted now (part_of pair y)) z ∙ here)

    pub some_wanted : (n : Shape) → shape_of now pair ≡ Some n
        → how_many (λ x. may_be_asked_for now (part_of pair x)) 0 (last_part n + 1)
        ≡ length (filter (is_in pair) now.held) + length (filter (is_in pair) (wanted now))
    some_wanted n e =
        let all =
        parted (λ x. may_be_asked_for now (part_of pair x)) (λ x. holds now (part_of pair x))
        (λ x. is_wanted now (part_of pair x))
        (λ x. ap (λ (b : Bool). may_be_asked_for now (part_of pair x) && (not (holds now (part_of pair x)) && not b))
        not_hidden
        ∙ ap (λ (b : Bool). may_be_asked_for now (part_of pair x) && b) (and_on (not (holds now (part_of pair x)))))
        (λ x h. (i.sound.held (part_of pair x) h).asked) 0 (last_part n + 1) in
        let held =
        held_there now i.sound pair
        ∙ ap (λ (o : Option Shape). how_many (λ x. holds now (part_of pair x)) 0 (last_known_part o + 1)) e in
        let want =
        wanted_there now i.sound pair
        ∙ ap (λ (o : Option Shape). how_many (λ x. is_wanted now (part_of pair x)) 0 (last_known_part o + 1)) e in
        omega (arith, all, held, want) where
          and_on : (b : Bool) → (b && true) ≡ b
          and_on true = refl
          and_on false = refl

  module _ (n : Shape) (e : shape_of now pair ≡ Some n) where
    held_here : length (filter (is_in pair) now.held) ≡ how_many (λ x. holds now (part_of pair x)) 0 (last_part n + 1)
    held_here =
        held_there now i.sound pair
        ∙ ap (λ (o : Option Shape). how_many (λ x. holds now (part_of pair x)) 0 (last_known_part o + 1)) e

    pub all_held : has_number nat_cmp p.done pair ≡ true → length (filter (is_in pair) now.held) ≡ last_part n + 1
    all_held done =
        let whole : is_complete now pair ≡ true =
        sym (complete_is p i pair) ∙ (λ j. is_some (e j) && done j) in
        held_here
        ∙ every (λ x. holds now (part_of pair x)) 0 (last_part n + 1)
        (λ x a b. each_held now pair n e whole x (omega (arith, b)))

    pub run_held : has_number nat_cmp p.done pair ≡ false
        → length (filter (is_in pair) now.held)
        ≡ how_many (λ x. has_number pair_cmp p.held (pair, x)) 0 (last_part n + 1)
    run_held undone =
        let open_yet : is_done now pair ≡ false = sym (i.all_done pair) ∙ undone in
        held_here
        ∙ same_many (λ x. holds now (part_of pair x)) (λ x. has_number pair_cmp p.held (pair, x))
        (λ x. go x open_yet (has_number pair_cmp p.held (pair, x)) refl) 0 0 (last_part n + 1) (last_part n + 1)
        refl refl where
          go : (x : ℕ) → is_done now pair ≡ false → (b : Bool) → has_number pair_cmp p.held (pair, x) ≡ b
              → holds now (part_of pair x) ≡ b
          go x o true h = i.all_held (pair, x) h
          go x o false h = gap_open p i pair x o h

-- ---- at the start, and as a part is held

no_pairs : (members k : ℕ) → let z : ℕ = 0 in pairs_from k (replicate members z) ≡ []
no_pairs zero k = refl
no_pairs (suc members) k = no_pairs members (k + 1)

pub none_wanted : (members : ℕ) → length (wanted (initial_plan members)) ≡ 0
none_wanted members =
    let p = initial_plan members in
    ap (λ (pairs : List Pair). length (filter (is_wanted p) (flat_map (parts_known p) pairs))) (no_pairs members 0)

module _ (p : Inside) (i : IsPlan p) (t : Part) (can : CanBeHeld (holdings p) t)
    (fresh : holds (holdings p) t ≡ false) (shape : Option Shape) (last_number : is_some shape ≡ (t.part == 0))
    (n : Shape)
    (tells : shape_of (with_part t shape (holdings p)) (pair_of t) ≡ Some n) where
  pub held_now : p.held_count + 1 ≡ length (with_part t shape (holdings p)).held
  held_now =
      omega (
        arith,
        i.counted.held,
        held_one_more (holdings p) t i.sound can fresh shape last_number n tells,
      )

  pub wanted_some : 1 ≤ p.wanted_count
  wanted_some =
      omega (
        arith,
        i.counted.wanted,
        one_before (holdings p) t i.sound can fresh shape last_number n tells,
      )

  pub wanted_now : (k : ℕ) → k ≡ how_many (λ x. parent_number n x == t.part) 1 (last_part n)
      → p.wanted_count - 1 + k ≡ length (wanted (with_part t shape (holdings p)))
  wanted_now k e =
      omega (
        arith,
        e,
        i.counted.wanted,
        wanted_some,
        more_listed (holdings p) t i.sound can fresh shape last_number n tells,
      )

  pub held_fits : IfSome shape IsShape → p.held_count + 1 < 2 ^ 64
  held_fits sized =
      omega (
        arith,
        held_now,
        few_held (with_part t shape (holdings p)) (sound_part (holdings p) t i.sound can fresh shape last_number sized)
            i.counted.numbers,
      )

  pub wanted_fits : (k : ℕ) → k ≡ how_many (λ x. parent_number n x == t.part) 1 (last_part n)
      → IfSome shape IsShape → p.wanted_count - 1 + k < 2 ^ 64
  wanted_fits k e sized =
      omega (
        arith,
        wanted_now k e,
        few_wanted (with_part t shape (holdings p))
            (sound_part (holdings p) t i.sound can fresh shape last_number sized)
            i.counted.numbers,
      )

-- ---- as a number goes up

module _ (p : Inside) (i : IsPlan p) (publisher seq : ℕ) (member : publisher < length p.known.items)
    (fits : seq < 2 ^ 16) where
  abbrev raised : PlanState
  raised = raises publisher seq (holdings p)

  abbrev last_before : ℕ
  last_before = get_or p.known.items publisher 0

  -- how many publications are known more, and not done
  abbrev pub undone_more : ℕ
  undone_more =
      how_many (λ n. not (is_done (holdings p) (publisher, n))) (last_before + 1) (max last_before seq - last_before)

  pub raised_numbers : (q : ℕ) → slice_index raised.known q < 2 ^ 16
  raised_numbers q = elim (cases_eq q publisher) [
    | inl e ↦
        omega (
          arith,
          ap (λ (n : ℕ). get_or raised.known n 0) e,
          get_or-set_same p.known.items publisher (max last_before seq) 0 member,
          i.counted.numbers publisher,
          fits,
        )
    | inr ne ↦
        omega (
          arith,
          get_or-set_other p.known.items publisher q (max last_before seq) 0 ne,
          i.counted.numbers q,
        )
  ]

  pub raised_now : (k : ℕ) → k ≡ undone_more → p.wanted_count + k ≡ length (wanted raised)
  raised_now k e = omega (arith, e, i.counted.wanted, more_known publisher seq (holdings p) i.sound member)

  pub raised_fits : (k : ℕ) → publisher < 2 ^ 32 → k ≡ undone_more → p.wanted_count + k < 2 ^ 64
  raised_fits k small e =
      omega (
        arith,
        raised_now k e,
        few_wanted raised (sound_raises publisher seq (holdings p) small i.sound) raised_numbers,
      )
