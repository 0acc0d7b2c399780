-- What holding a part makes of how many parts are wanted and held.
use Rattle.std.proofs.Common.{◌≡◌, inl, inr, ℕ, suc, zero, ◌+◌, ◌≤◌, ◌<◌, Bool, true, false, not, ◌&&◌, ◌||◌}
use Rattle.std.proofs.Common.{List, [], ◌∷◌, map, length, refl, sym, ap, ◌∙◌, subst, arith, Option, Some, None}
use Rattle.std.proofs.lemmas.Bool.{true≢false, and_parts, and_from, or_cases, or_from, or_left, or_parts, not-true}
use Rattle.std.proofs.lemmas.Bool.{not_from_false, false_from_ne_true, leb-true, eq-eqb, eqb-true}
use Rattle.std.specs.Cmp.{both_ways}
use Rattle.std.specs.Prelude.{nat_le, ◌==◌, is_some}
use Rattle.std.specs.List.{filter}
use Rattle.std.specs.Ordering.{eq_by_cmp, is_eq}
use Rattle.std.specs.declared.cmp.Ordering.{Ordering}
use Rattle.std.specs.declared.cmp.Ordering.TheVariants.{Less, Equal, Greater}
use Rattle.repo_plan.specs.declared.part.Part.{Part}
use Rattle.sorted_lists.specs.SortedList.{contains, insert_key, by_order}
use Rattle.sorted_lists.specs.Range.{numbers_from}
use Rattle.sorted_lists.proofs.SameSets.{same_sets}
use Rattle.sorted_lists.proofs.Sets.{In, in_contains, contains_in, contains-filter, contains-insert_key, rises_filter}
use Rattle.sorted_lists.proofs.Sets.{eq_same, eq_itself, eq_turned, from_map, in_map}
use Rattle.repo_plan.specs.Counts.{how_many}
use Rattle.repo_plan.specs.Parts.{Pair, Shape, part_cmp, pair_of, part_of, last_part, parent, parent_number}
use Rattle.repo_plan.specs.Plan.{PlanState, knows, holds, shape_of, is_listed_part, may_be_asked_for, is_wanted, wanted}
use Rattle.repo_plan.specs.Sound.{PlanIsSound, CanBeHeld}
use Rattle.repo_plan.proofs.Orders.{exact_parts}
use Rattle.repo_plan.proofs.Counts.{made_of}
use Rattle.repo_plan.proofs.Known.{from_numbers, in_numbers, wanted_is_asked, contains-wanted, wanted_rises}
use Rattle.repo_plan.proofs.Known.{rises_numbers, listed_asked}
use Rattle.repo_plan.proofs.Changes.{IsWanted, wanted_parts, wanted_from, Keeps, asked_kept, with_part, keeps_part}
use Rattle.repo_plan.proofs.Recounted.{split}

same_some : {a b : Shape} → Some a ≡ Some b → a ≡ b
same_some e = cc

-- a set with one more key
longer : (t : Part) (xs : List Part) → contains part_cmp xs t ≡ false
    → length (insert_key part_cmp t xs) ≡ length xs + 1
longer t [] off = omega arith
longer t (x ∷ xs) off =
    let apart : (eq_by_cmp part_cmp t x ≡ false) × (contains part_cmp xs t ≡ false) =
    or_parts (eq_by_cmp part_cmp t x) _ off in
    go (part_cmp t x) refl apart.0 (longer t xs apart.1) where
      go : (o : Ordering) → part_cmp t x ≡ o → eq_by_cmp part_cmp t x ≡ false
          → length (insert_key part_cmp t xs) ≡ length xs + 1
          → length (by_order o (t ∷ x ∷ xs) (x ∷ xs) (x ∷ insert_key part_cmp t xs)) ≡ length (x ∷ xs) + 1
      go Less e ne h = omega arith
      go Equal e ne h = absurd (true≢false (sym (ap is_eq e) ∙ ne))
      go Greater e ne h = omega (arith, h)

-- the part that lists one that is asked for, which isn't the record, is held
asked_parent : (q : PlanState) (u : Part) → may_be_asked_for q u ≡ true → (u.part ≡ 0 → ⊥)
    → (m : Shape) × (shape_of q (pair_of u) ≡ Some m) × (u.part ≤ last_part m) × (holds q (parent m u) ≡ true)
asked_parent q u a nz = go (shape_of q (pair_of u)) refl (and_parts (knows q (pair_of u)) _ a).1 where
  go : (o : Option Shape) → shape_of q (pair_of u) ≡ o → is_listed_part q.held o u ≡ true
      → (m : Shape) × (shape_of q (pair_of u) ≡ Some m) × (u.part ≤ last_part m) × (holds q (parent m u) ≡ true)
  go None e h = absurd (nz (eqb-true u.part 0 h))
  go (Some m) e h = elim (or_cases (u.part == 0) _ h) [
    | inl z ↦ absurd (nz (eqb-true u.part 0 z))
    | inr r ↦
        let b : (nat_le u.part (last_part m) ≡ true) × (holds q (parent m u) ≡ true) =
        and_parts (nat_le u.part (last_part m)) _ r in
        (m, e, leb-true u.part (last_part m) b.0, b.1)
  ]

-- a record of a known publication can be asked for
record_asked : (q : PlanState) (u : Part) → knows q (pair_of u) ≡ true → u.part ≡ 0 → may_be_asked_for q u ≡ true
record_asked q u k z = and_from (knows q (pair_of u)) _ k (go (shape_of q (pair_of u))) where
  go : (o : Option Shape) → is_listed_part q.held o u ≡ true
  go None = eq-eqb u.part 0 z
  go (Some m) = or_left (u.part == 0) _ (eq-eqb u.part 0 z)

module _ (p : PlanState) (t : Part) (s : PlanIsSound p) (can : CanBeHeld p t) (fresh : holds p t ≡ false)
    (shape : Option Shape) (last_number : is_some shape ≡ (t.part == 0)) (n : Shape)
    (tells : shape_of (with_part t shape p) (pair_of t) ≡ Some n) where
  abbrev with_it : PlanState
  with_it = with_part t shape p

  keeps : Keeps p with_it
  keeps = keeps_part p t s can fresh shape last_number

  held_too : (u : Part) → holds with_it u ≡ (eq_by_cmp part_cmp u t || holds p u)
  held_too u = contains-insert_key exact_parts t p.held u

  pub held_one_more : length with_it.held ≡ length p.held + 1
  held_one_more = longer t p.held fresh

  t_wanted : is_wanted p t ≡ true
  t_wanted = wanted_from p t (record { asked = can.asked; not_held = fresh; not_hidden = can.not_hidden })

  t_held : holds with_it t ≡ true
  t_held = held_too t ∙ or_left (eq_by_cmp part_cmp t t) _ (eq_itself exact_parts t)

  -- what was wanted still is, except the part
  abbrev is_other : Part → Bool
  is_other u = not (eq_by_cmp part_cmp t u)

  to_other : (u : Part) → (is_wanted p u && is_wanted with_it u) ≡ true → (is_other u && is_wanted p u) ≡ true
  to_other u h =
      let b : (is_wanted p u ≡ true) × (is_wanted with_it u ≡ true) = and_parts (is_wanted p u) _ h in
      and_from (is_other u) _
      (not_from_false (eq_by_cmp part_cmp t u)
      (false_from_ne_true (eq_by_cmp part_cmp t u) (λ e.
      true≢false
      (sym (ap (holds with_it) (sym (eq_same exact_parts t u e)) ∙ t_held)
      ∙ (wanted_parts with_it u b.1).not_held))))
      b.0

  from_other : (u : Part) → (is_other u && is_wanted p u) ≡ true → (is_wanted p u && is_wanted with_it u) ≡ true
  from_other u h =
      let b : (is_other u ≡ true) × (is_wanted p u ≡ true) = and_parts (is_other u) _ h in
      let w : IsWanted p u = wanted_parts p u b.1 in
      let ne : eq_by_cmp part_cmp u t ≡ false =
      eq_turned exact_parts u t ∙ not-true (eq_by_cmp part_cmp t u) b.0 in
      and_from (is_wanted p u) _ b.1
      (wanted_from with_it u (record {
        asked = asked_kept p with_it u keeps w.asked;
        not_held = held_too u ∙ or_from (eq_by_cmp part_cmp u t) _ ne w.not_held;
        not_hidden = w.not_hidden;
      }))

  old_parts : filter (is_wanted p) (wanted with_it) ≡ filter is_other (wanted p)
  old_parts =
      same_sets exact_parts (filter (is_wanted p) (wanted with_it)) (filter is_other (wanted p))
      (rises_filter exact_parts.total (is_wanted p) (wanted with_it) (wanted_rises with_it))
      (rises_filter exact_parts.total is_other (wanted p) (wanted_rises p)) (λ u.
      contains-filter exact_parts (is_wanted p) (wanted with_it) u
      ∙ ap (λ (b : Bool). is_wanted p u && b) (contains-wanted with_it u)
      ∙ both_ways (is_wanted p u && is_wanted with_it u) (is_other u && is_wanted p u) (to_other u) (from_other u)
      ∙ ap (λ (b : Bool). is_other u && b) (sym (contains-wanted p u))
      ∙ sym (contains-filter exact_parts is_other (wanted p) u))

  only_it : filter (eq_by_cmp part_cmp t) (wanted p) ≡ t ∷ []
  only_it =
      same_sets exact_parts (filter (eq_by_cmp part_cmp t) (wanted p)) (t ∷ [])
      (rises_filter exact_parts.total (eq_by_cmp part_cmp t) (wanted p) (wanted_rises p)) (tt, tt) (λ u.
      contains-filter exact_parts (eq_by_cmp part_cmp t) (wanted p) u
      ∙ ap (λ (b : Bool). eq_by_cmp part_cmp t u && b) (contains-wanted p u)
      ∙ here u (eq_by_cmp part_cmp t u) refl) where
        here : (u : Part) (b : Bool) → eq_by_cmp part_cmp t u ≡ b
            → (eq_by_cmp part_cmp t u && is_wanted p u) ≡ (eq_by_cmp part_cmp u t || false)
        here u true e =
            (λ i. e i && is_wanted p (sym (eq_same exact_parts t u e) i)) ∙ t_wanted
            ∙ sym (ap (λ (b : Bool). b || false) (eq_turned exact_parts u t ∙ e))
        here u false e =
            ap (λ (b : Bool). b && is_wanted p u) e
            ∙ sym (ap (λ (b : Bool). b || false) (eq_turned exact_parts u t ∙ e))

  -- what is wanted only now is listed by the part
  abbrev is_listed : Part → Bool
  is_listed u = parent_number n u.part == t.part

  abbrev others : List Part
  others = map (part_of (pair_of t)) (numbers_from 1 (last_part n))

  -- a shape that is reported now, of a publication of which a part was held
  shape_before : (u : Part) (m : Shape) → holds p u ≡ true → shape_of with_it (pair_of u) ≡ Some m
      → (o : Option Shape) → shape_of p (pair_of u) ≡ o → o ≡ Some m
  shape_before u m held now None e =
      absurd (true≢false (sym (s.held u held).with_record ∙ sym (s.shapes (pair_of u)) ∙ ap is_some e))
  shape_before u m held now (Some k) e = sym (keeps.shapes (pair_of u) k e) ∙ now

  to_listed : (u : Part) → (not (is_wanted p u) && is_wanted with_it u) ≡ true
      → (is_listed u && contains part_cmp others u) ≡ true
  to_listed u h =
      let b : (not (is_wanted p u) ≡ true) × (is_wanted with_it u ≡ true) = and_parts (not (is_wanted p u)) _ h in
      let w : IsWanted with_it u = wanted_parts with_it u b.1 in
      let off : (eq_by_cmp part_cmp u t ≡ false) × (holds p u ≡ false) =
      or_parts (eq_by_cmp part_cmp u t) _ (sym (held_too u) ∙ w.not_held) in
      let k : knows p (pair_of u) ≡ true = (and_parts (knows p (pair_of u)) _ w.asked).0 in
      let unasked : may_be_asked_for p u ≡ true → ⊥ =
      λ asked. true≢false
      (sym (wanted_from p u (record { asked = asked; not_held = off.1; not_hidden = w.not_hidden }))
      ∙ not-true (is_wanted p u) b.0) in
      let nz : u.part ≡ 0 → ⊥ = λ z. unasked (record_asked p u k z) in
      let m : (m : Shape) × (shape_of with_it (pair_of u) ≡ Some m) × (u.part ≤ last_part m)
      × (holds with_it (parent m u) ≡ true) =
      asked_parent with_it u w.asked nz in
      let by_it : parent m.0 u ≡ t =
      elim (or_cases (eq_by_cmp part_cmp (parent m.0 u) t) _ (sym (held_too (parent m.0 u)) ∙ m.3)) [
        | inl e ↦ eq_same exact_parts (parent m.0 u) t e
        | inr old ↦
            absurd (unasked (listed_asked p (pair_of u) m.0 u.part k
            (shape_before (parent m.0 u) m.0 old m.1 (shape_of p (pair_of u)) refl) m.2 old))
      ] in
      let at : pair_of u ≡ pair_of t = ap pair_of by_it in
      let same : m.0 ≡ n =
      same_some (sym m.1 ∙ ap (shape_of with_it) at ∙ tells) in
      let number : parent_number n u.part ≡ t.part =
      ap (λ (k : Shape). parent_number k u.part) (sym same) ∙ ap (λ (v : Part). v.part) by_it in
      let there : u ≡ part_of (pair_of t) u.part = ap (λ (q : Pair). part_of q u.part) at in
      let few : u.part ≤ last_part n = subst (λ (k : Shape). u.part ≤ last_part k) same m.2 in
      and_from (is_listed u) _ (eq-eqb (parent_number n u.part) t.part number)
      (contains_in exact_parts others u
      (subst (λ (v : Part). In v others) (sym there)
      (in_map (part_of (pair_of t)) (numbers_from 1 (last_part n)) u.part
      (in_numbers 1 (last_part n) u.part (some u.part nz) (omega (arith, few)))))) where
        some : (x : ℕ) → (x ≡ 0 → ⊥) → 1 ≤ x
        some zero h = absurd (h refl)
        some (suc x) h = omega arith

  -- a part that it lists
  module _ (x : ℕ) (from : 1 ≤ x) (to : x ≤ last_part n) (number : parent_number n x ≡ t.part) where
    abbrev child : Part
    child = part_of (pair_of t) x

    unasked_yet : may_be_asked_for p child ≡ true → ⊥
    unasked_yet a =
        let m : (m : Shape) × (shape_of p (pair_of t) ≡ Some m) × (x ≤ last_part m)
        × (holds p (parent m child) ≡ true) =
        asked_parent p child a (λ z. omega (arith, z, from)) in
        let same : m.0 ≡ n = same_some (sym (keeps.shapes (pair_of t) m.0 m.1) ∙ tells) in
        let it : parent m.0 child ≡ t =
        ap (λ (k : Shape). part_of (pair_of t) (parent_number k x)) same ∙ ap (part_of (pair_of t)) number in
        true≢false (sym m.3 ∙ ap (holds p) it ∙ fresh)

    child_wanted : (not (is_wanted p child) && is_wanted with_it child) ≡ true
    child_wanted =
        let k : knows p (pair_of t) ≡ true = (and_parts (knows p (pair_of t)) _ can.asked).0 in
        let other : eq_by_cmp part_cmp child t ≡ false =
        false_from_ne_true (eq_by_cmp part_cmp child t) (λ e.
        unasked_yet (ap (may_be_asked_for p) (eq_same exact_parts child t e) ∙ can.asked)) in
        and_from (not (is_wanted p child)) _
        (not_from_false (is_wanted p child)
        (false_from_ne_true (is_wanted p child) (λ w. unasked_yet (wanted_is_asked p child w))))
        (wanted_from with_it child (record {
          asked =
              listed_asked with_it (pair_of t) n x k tells to
              (ap (λ (y : ℕ). holds with_it (part_of (pair_of t) y)) number ∙ t_held);
          not_held =
              held_too child
              ∙ or_from (eq_by_cmp part_cmp child t) _ other
              (false_from_ne_true (holds p child) (λ h. unasked_yet (s.held child h).asked));
          not_hidden = can.not_hidden;
        }))

  from_listed : (u : Part) → (is_listed u && contains part_cmp others u) ≡ true
      → (not (is_wanted p u) && is_wanted with_it u) ≡ true
  from_listed u h =
      let b : (is_listed u ≡ true) × (contains part_cmp others u ≡ true) = and_parts (is_listed u) _ h in
      let r : (x : ℕ) × (In x (numbers_from 1 (last_part n))) × (u ≡ part_of (pair_of t) x) =
      from_map (part_of (pair_of t)) (numbers_from 1 (last_part n)) u (in_contains exact_parts others u b.1) in
      let l : (1 ≤ r.0) × (r.0 < 1 + last_part n) = from_numbers 1 (last_part n) r.0 r.1 in
      let at : u.part ≡ r.0 = ap (λ (v : Part). v.part) r.2 in
      let number : parent_number n r.0 ≡ t.part =
      ap (parent_number n) (sym at) ∙ eqb-true (parent_number n u.part) t.part b.0 in
      subst (λ (v : Part). (not (is_wanted p v) && is_wanted with_it v) ≡ true) (sym r.2)
      (child_wanted r.0 l.0 (omega (arith, l.1)) number)

  new_parts : filter (λ u. not (is_wanted p u)) (wanted with_it) ≡ filter is_listed others
  new_parts =
      same_sets exact_parts (filter (λ u. not (is_wanted p u)) (wanted with_it)) (filter is_listed others)
      (rises_filter exact_parts.total (λ u. not (is_wanted p u)) (wanted with_it) (wanted_rises with_it))
      (rises_filter exact_parts.total is_listed others (rises_numbers p (pair_of t) 1 (last_part n))) (λ u.
      contains-filter exact_parts (λ v. not (is_wanted p v)) (wanted with_it) u
      ∙ ap (λ (b : Bool). not (is_wanted p u) && b) (contains-wanted with_it u)
      ∙ both_ways (not (is_wanted p u) && is_wanted with_it u) (is_listed u && contains part_cmp others u) (to_listed u)
      (from_listed u)
      ∙ sym (contains-filter exact_parts is_listed others u))

  pub one_before : 1 ≤ length (wanted p)
  one_before =
      let one : length (filter (eq_by_cmp part_cmp t) (wanted p)) ≡ 1 = ap length only_it in
      omega (arith, one, split (eq_by_cmp part_cmp t) (wanted p))

  pub more_listed : length (wanted with_it) + 1
      ≡ length (wanted p) + how_many (λ x. parent_number n x == t.part) 1 (last_part n)
  more_listed =
      let one : length (filter (eq_by_cmp part_cmp t) (wanted p)) ≡ 1 = ap length only_it in
      omega (
        arith,
        one,
        split (is_wanted p) (wanted with_it),
        split (eq_by_cmp part_cmp t) (wanted p),
        ap length old_parts,
        ap length new_parts ∙ made_of (part_of (pair_of t)) is_listed (numbers_from 1 (last_part n)),
      )
