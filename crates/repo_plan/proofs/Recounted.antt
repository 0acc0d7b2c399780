-- What hiding a publication and more known numbers make of how many parts are wanted and held.
use Rattle.std.proofs.Common.{◌≡◌, inl, inr, ℕ, suc, zero, ◌+◌, ◌-◌, ◌≢◌, ◌≤◌, ◌<◌, max, Bool, true, false, not, ◌&&◌}
use Rattle.std.proofs.Common.{◌||◌, List, map, length, get_or, refl, sym, ap, ◌∙◌, subst, arith, Option, Some, None}
use Rattle.std.proofs.lemmas.Bool.{true≢false, and_parts, and_from, or_from, or_left, or_parts, not-true}
use Rattle.std.proofs.lemmas.Bool.{not_from_false, false_from_ne_true, leb-true, le-leb, eqb-true, cases_eq, cases_lt}
use Rattle.std.proofs.lemmas.List.{get_or-set_same, get_or-set_other}
use Rattle.std.proofs.lemmas.List.Filters.{length-filter_both}
use Rattle.std.specs.Cmp.{both_ways}
use Rattle.std.specs.Prelude.{nat_le, ◌==◌, is_some}
use Rattle.std.specs.List.{filter}
use Rattle.std.specs.Ordering.{eq_by_cmp, nat_cmp}
use Rattle.repo_plan.specs.declared.part.Part.{Part}
use Rattle.sorted_lists.specs.SortedList.{Rises, contains}
use Rattle.sorted_lists.specs.Range.{numbers_from}
use Rattle.sorted_lists.proofs.Orders.{nat_less, nat_itself, first_less, then_second}
use Rattle.sorted_lists.proofs.SameSets.{same_sets}
use Rattle.sorted_lists.proofs.Sets.{In, in_contains, contains_in, contains-filter, rises_filter, eq_turned, from_map}
use Rattle.sorted_lists.proofs.Sets.{in_map, before_each}
use Rattle.repo_plan.specs.Counts.{how_many}
use Rattle.repo_plan.specs.Parts.{Pair, Shape, part_cmp, pair_cmp, pair_of, part_of}
use Rattle.repo_plan.specs.Plan.{PlanState, knows, holds, hides, shape_of, is_listed_part, is_wanted, is_in, is_done}
use Rattle.repo_plan.specs.Plan.{is_complete, wanted, raises, after_hide}
use Rattle.repo_plan.specs.Sound.{PlanIsSound}
use Rattle.repo_plan.proofs.Orders.{exact_parts, exact_pairs}
use Rattle.repo_plan.proofs.Counts.{made_of}
use Rattle.repo_plan.proofs.Known.{from_numbers, in_numbers, contains-wanted, wanted_rises}
use Rattle.repo_plan.proofs.Whole.{no_shape}
use Rattle.repo_plan.proofs.Changes.{IsWanted, wanted_parts, wanted_from, hidden_too, held_other, asked_other}

-- the set's parts that pass a test, and those that don't
pub split : (f : Part → Bool) (xs : List Part)
    → length xs ≡ length (filter f xs) + length (filter (λ u. not (f u)) xs)
split f xs = sym (length-filter_both f (λ x. not (f x)) (λ x. refl) xs)

-- ---- a publication is hidden

module _ (p : PlanState) (pair : Pair) where
  still_wanted : (u : Part) (b : Bool) → is_in pair u ≡ b → is_wanted (after_hide pair p) u ≡ (not b && is_wanted p u)
  still_wanted u true e =
      let here : hides (after_hide pair p) (pair_of u) ≡ true =
      hidden_too pair p (pair_of u)
      ∙ or_left (eq_by_cmp pair_cmp (pair_of u) pair) _ (eq_turned exact_pairs (pair_of u) pair ∙ e) in
      false_from_ne_true (is_wanted (after_hide pair p) u) (λ h.
      true≢false (sym here ∙ (wanted_parts (after_hide pair p) u h).not_hidden))
  still_wanted u false e =
      let hidden : hides (after_hide pair p) (pair_of u) ≡ hides p (pair_of u) =
      hidden_too pair p (pair_of u)
      ∙ ap (λ (b : Bool). b || hides p (pair_of u)) (eq_turned exact_pairs (pair_of u) pair ∙ e) in
      λ i. asked_other pair p u e i && (not (held_other pair p u e i) && not (hidden i))

  wanted_hidden : wanted (after_hide pair p) ≡ filter (λ u. not (is_in pair u)) (wanted p)
  wanted_hidden =
      same_sets exact_parts (wanted (after_hide pair p)) (filter (λ u. not (is_in pair u)) (wanted p))
      (wanted_rises (after_hide pair p))
      (rises_filter exact_parts.total (λ u. not (is_in pair u)) (wanted p) (wanted_rises p)) (λ u.
      contains-wanted (after_hide pair p) u ∙ still_wanted u (is_in pair u) refl
      ∙ ap (λ (b : Bool). not (is_in pair u) && b) (sym (contains-wanted p u))
      ∙ sym (contains-filter exact_parts (λ v. not (is_in pair v)) (wanted p) u))

  pub fewer_wanted : length (wanted p)
      ≡ length (filter (is_in pair) (wanted p)) + length (wanted (after_hide pair p))
  fewer_wanted = omega (arith, split (is_in pair) (wanted p), ap length wanted_hidden)

  pub fewer_held : length p.held ≡ length (filter (is_in pair) p.held) + length (after_hide pair p).held
  fewer_held = split (is_in pair) p.held

-- ---- a number goes up

-- the records of `n` publications of a publisher, from one number on
abbrev records : ℕ → ℕ → ℕ → List Part
records publisher first n = map (λ seq. part_of (publisher, seq) 0) (numbers_from first n)

records_rise : (publisher first n : ℕ) → Rises part_cmp (records publisher first n)
records_rise publisher first zero = tt
records_rise publisher first (suc n) = (
  before_each exact_parts.total (part_of (publisher, first) 0) _ (λ y i.
      let r : (x : ℕ) × (In x (numbers_from (first + 1) n)) × (y ≡ part_of (publisher, x) 0) =
      from_map (λ seq. part_of (publisher, seq) 0) (numbers_from (first + 1) n) y i in
      let l : first + 1 ≤ r.0 = (from_numbers (first + 1) n r.0 r.1).0 in
      ap (part_cmp (part_of (publisher, first) 0)) r.2
      ∙ then_second (nat_cmp publisher publisher) _ (nat_itself publisher)
      ∙ first_less (nat_cmp first r.0) _ (nat_less first r.0 (omega (arith, l)))),
  records_rise publisher (first + 1) n,
)

module _ (publisher seq : ℕ) (p : PlanState) (s : PlanIsSound p) (member : publisher < length p.known) where
  abbrev before : ℕ
  before = get_or p.known publisher 0

  abbrev last : ℕ
  last = max before seq

  abbrev raised : PlanState
  raised = raises publisher seq p

  last_here : get_or raised.known publisher 0 ≡ last
  last_here = get_or-set_same p.known publisher last 0 member

  last_other : (q : ℕ) → q ≢ publisher → get_or raised.known q 0 ≡ get_or p.known q 0
  last_other q ne = get_or-set_other p.known publisher q last 0 ne

  known_still : (pair : Pair) → knows p pair ≡ true → knows raised pair ≡ true
  known_still pair h =
      let both : (nat_le 1 pair.1 ≡ true) × (nat_le pair.1 (get_or p.known pair.0 0) ≡ true) =
      and_parts (nat_le 1 pair.1) _ h in
      let l : pair.1 ≤ get_or p.known pair.0 0 = leb-true pair.1 _ both.1 in
      and_from (nat_le 1 pair.1) _ both.0 (le-leb pair.1 _ (elim (cases_eq pair.0 publisher) [
        | inl e ↦
            omega (arith, l, ap (λ (q : ℕ). get_or raised.known q 0) e, ap (λ (q : ℕ). get_or p.known q 0) e, last_here)
        | inr ne ↦ omega (arith, l, last_other pair.0 ne)
      ]))

  -- what is known now only is of the publisher, between both numbers
  known_now : (pair : Pair) → knows raised pair ≡ true → knows p pair ≡ false
      → (pair.0 ≡ publisher) × (before + 1 ≤ pair.1) × (pair.1 ≤ last)
  known_now pair h off =
      let both : (nat_le 1 pair.1 ≡ true) × (nat_le pair.1 (get_or raised.known pair.0 0) ≡ true) =
      and_parts (nat_le 1 pair.1) _ h in
      let l : pair.1 ≤ get_or raised.known pair.0 0 = leb-true pair.1 _ both.1 in
      let over : get_or p.known pair.0 0 < pair.1 =
      elim (cases_lt (get_or p.known pair.0 0) pair.1) [
        | inl b ↦ b
        | inr a ↦ absurd (true≢false (sym (and_from (nat_le 1 pair.1) _ both.0 (le-leb pair.1 _ a)) ∙ off))
      ] in
      elim (cases_eq pair.0 publisher) [
        | inl e ↦ (
          e,
          omega (arith, over, ap (λ (q : ℕ). get_or p.known q 0) e),
          omega (arith, l, ap (λ (q : ℕ). get_or raised.known q 0) e, last_here),
        )
        | inr ne ↦ absurd (omega (arith, over, l, last_other pair.0 ne))
      ]

  -- a publication that is not known has no shape
  unknown_shape : (pair : Pair) → knows p pair ≡ false → (o : Option Shape) → shape_of p pair ≡ o → o ≡ None
  unknown_shape pair off None e = refl
  unknown_shape pair off (Some n) e =
      let held : holds p (part_of pair 0) ≡ true = sym (s.shapes pair) ∙ ap is_some e in
      let known : knows p pair ≡ true = (and_parts (knows p pair) _ (s.held (part_of pair 0) held).asked).0 in
      absurd (true≢false (sym known ∙ off))

  unknown_unheld : (u : Part) → knows p (pair_of u) ≡ false → holds p u ≡ false
  unknown_unheld u off =
      false_from_ne_true (holds p u)
      (λ h. true≢false (sym (and_parts (knows p (pair_of u)) _ (s.held u h).asked).0 ∙ off))

  -- what is wanted now and whose number was not known
  abbrev is_new : Part → Bool
  is_new u = not (knows p (pair_of u))

  abbrev is_open : Part → Bool
  is_open u = not (is_done p (pair_of u))

  abbrev fresh_records : List Part
  fresh_records = records publisher (before + 1) (last - before)

  to_record : (u : Part) → (is_new u && is_wanted raised u) ≡ true
      → (is_open u && contains part_cmp fresh_records u) ≡ true
  to_record u h =
      let b : (is_new u ≡ true) × (is_wanted raised u ≡ true) = and_parts (is_new u) _ h in
      let off : knows p (pair_of u) ≡ false = not-true (knows p (pair_of u)) b.0 in
      let w : IsWanted raised u = wanted_parts raised u b.1 in
      let a : (knows raised (pair_of u) ≡ true) × (is_listed_part p.held (shape_of p (pair_of u)) u ≡ true) =
      and_parts (knows raised (pair_of u)) _ w.asked in
      let none : shape_of p (pair_of u) ≡ None = unknown_shape (pair_of u) off (shape_of p (pair_of u)) refl in
      let zero_part : u.part ≡ 0 =
      eqb-true u.part 0 (sym (ap (λ (o : Option Shape). is_listed_part p.held o u) none) ∙ a.1) in
      let here : (u.publisher ≡ publisher) × (before + 1 ≤ u.seq) × (u.seq ≤ last) =
      known_now (pair_of u) a.0 off in
      let same : u ≡ part_of (publisher, u.seq) 0 =
      λ i. record { publisher = here.0 i; seq = u.seq; part = zero_part i } in
      and_from (is_open u) _
      (not_from_false (is_done p (pair_of u))
      (or_from (hides p (pair_of u)) _ w.not_hidden (no_shape p (pair_of u) s none)))
      (contains_in exact_parts fresh_records u
      (subst (λ (v : Part). In v fresh_records) (sym same)
      (in_map (λ n. part_of (publisher, n) 0) (numbers_from (before + 1) (last - before)) u.seq
      (in_numbers (before + 1) (last - before) u.seq here.1 (omega (arith, here.1, here.2))))))

  from_record : (u : Part) → (is_open u && contains part_cmp fresh_records u) ≡ true
      → (is_new u && is_wanted raised u) ≡ true
  from_record u h =
      let b : (is_open u ≡ true) × (contains part_cmp fresh_records u ≡ true) = and_parts (is_open u) _ h in
      let r : (x : ℕ) × (In x (numbers_from (before + 1) (last - before))) × (u ≡ part_of (publisher, x) 0) =
      from_map (λ n. part_of (publisher, n) 0) (numbers_from (before + 1) (last - before)) u
      (in_contains exact_parts fresh_records u b.1) in
      let l : (before + 1 ≤ r.0) × (r.0 < before + 1 + (last - before)) =
      from_numbers (before + 1) (last - before) r.0 r.1 in
      let pair : Pair = (publisher, r.0) in
      let at : pair_of u ≡ pair = ap pair_of r.2 in
      let off : knows p (pair_of u) ≡ false =
      ap (knows p) at
      ∙ false_from_ne_true (knows p pair) (λ k.
      omega (arith, l.0, leb-true r.0 before (and_parts (nat_le 1 r.0) _ k).1)) in
      let on : knows raised (pair_of u) ≡ true =
      ap (knows raised) at
      ∙ and_from (nat_le 1 r.0) _ (le-leb 1 r.0 (omega (arith, l.0)))
      (le-leb r.0 _ (omega (arith, l.1, last_here))) in
      let none : shape_of p (pair_of u) ≡ None = unknown_shape (pair_of u) off (shape_of p (pair_of u)) refl in
      let open_parts : (hides p (pair_of u) ≡ false) × (is_complete p (pair_of u) ≡ false) =
      or_parts (hides p (pair_of u)) _ (not-true (is_done p (pair_of u)) b.0) in
      and_from (is_new u) _ (not_from_false (knows p (pair_of u)) off)
      (wanted_from raised u (record {
        asked =
            and_from (knows raised (pair_of u)) _ on
            (ap (λ (o : Option Shape). is_listed_part p.held o u) none
            ∙ ap (λ (v : Part). v.part == 0) r.2);
        not_held = unknown_unheld u off;
        not_hidden = open_parts.0;
      }))

  new_records : filter is_new (wanted raised) ≡ filter is_open fresh_records
  new_records =
      same_sets exact_parts (filter is_new (wanted raised)) (filter is_open fresh_records)
      (rises_filter exact_parts.total is_new (wanted raised) (wanted_rises raised))
      (rises_filter exact_parts.total is_open fresh_records (records_rise publisher (before + 1) (last - before))) (λ u.
      contains-filter exact_parts is_new (wanted raised) u
      ∙ ap (λ (b : Bool). is_new u && b) (contains-wanted raised u)
      ∙ both_ways (is_new u && is_wanted raised u) (is_open u && contains part_cmp fresh_records u) (to_record u)
      (from_record u)
      ∙ sym (contains-filter exact_parts is_open fresh_records u))

  still_known : (a b c d : Bool) → (a ≡ true → b ≡ true) → (not (not a) && ((b && c) && d)) ≡ ((a && c) && d)
  still_known true b c d h = ap (λ (e : Bool). (e && c) && d) (h refl)
  still_known false b c d h = refl

  old_wanted : filter (λ u. not (is_new u)) (wanted raised) ≡ wanted p
  old_wanted =
      same_sets exact_parts (filter (λ u. not (is_new u)) (wanted raised)) (wanted p)
      (rises_filter exact_parts.total (λ u. not (is_new u)) (wanted raised) (wanted_rises raised)) (wanted_rises p)
      (λ u.
      contains-filter exact_parts (λ v. not (is_new v)) (wanted raised) u
      ∙ ap (λ (b : Bool). not (is_new u) && b) (contains-wanted raised u)
      ∙ still_known (knows p (pair_of u)) (knows raised (pair_of u)) (is_listed_part p.held (shape_of p (pair_of u)) u)
      (not (holds p u) && not (hides p (pair_of u))) (known_still (pair_of u))
      ∙ sym (contains-wanted p u))

  pub more_known : length (wanted raised)
      ≡ length (wanted p) + how_many (λ n. not (is_done p (publisher, n))) (before + 1) (last - before)
  more_known =
      omega (
        arith,
        split is_new (wanted raised),
        ap length old_wanted,
        ap length new_records
            ∙ made_of (λ n. part_of (publisher, n) 0) is_open (numbers_from (before + 1) (last - before)),
      )
