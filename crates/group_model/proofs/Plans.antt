-- What the plan of a member wants, in the group's words.
use Rattle.std.proofs.Common.{◌≡◌, ◌⊎◌, inl, inr, ℕ, ◌≤◌, Bool, true, false, cond, ◌&&◌, ◌||◌, List, [], ◌∷◌, map}
use Rattle.std.proofs.Common.{get_or, refl, sym, ap, ◌∙◌, subst, arith, Option, Some, None}
use Rattle.std.proofs.lemmas.Bool.{true≢false, and_parts, and_from, or_cases, or_right, or_left, false_from_ne_true}
use Rattle.std.proofs.lemmas.Bool.{leb-true, le-leb, eqb-true, eq-eqb}
use Rattle.std.specs.Prelude.{nat_le, ◌==◌, filter}
use Rattle.std.specs.Ordering.{eq_by_cmp}
use Rattle.repo_plan.specs.declared.part.Part.{Part}
use Rattle.sorted_lists.specs.SortedList.{contains, value_of}
use Rattle.repo_plan.specs.Parts.{Pair, pair_cmp, part_cmp, pair_of, part_of, record_of, parent}
use Rattle.repo_plan.specs.declared.shape.Shape.{Shape}
use Rattle.repo_plan.specs.Plan.{is_wanted, shape_of, is_listed_part}
use Rattle.repo_plan.proofs.Orders.{exact_parts, exact_pairs}
use Rattle.sorted_lists.proofs.Sets.{eq_same}
use Rattle.group_model.specs.Publications.{Logs, count, shape_at}
use Rattle.group_model.specs.Member.{Member, member_holds, has_deleted, held_shapes, plan_of}
use Rattle.group_model.specs.Sound.{IsKnown}
use Rattle.repo_plan.specs.Plan
use Rattle.repo_plan.proofs.Changes
use Rattle.repo_plan.proofs.Changes.{record_eq}

-- ---- what held records tell

other_part : (pair : Pair) (t : Part) → (t.part == 0) ≡ false → eq_by_cmp part_cmp (part_of pair 0) t ≡ false
other_part pair t z =
    false_from_ne_true (eq_by_cmp part_cmp (part_of pair 0) t)
    (λ e. true≢false (ap (λ (u : Part). u.part == 0) (eq_same exact_parts (part_of pair 0) t e) ∙ z))

pub received-at : (ls : Logs) (held : List Part) (pair : Pair)
    → value_of pair_cmp (held_shapes ls held) pair
    ≡ cond (contains part_cmp held (part_of pair 0)) (Some (shape_at ls pair)) None
received-at ls [] pair = refl
received-at ls (t ∷ ts) pair = go (received-at ls ts pair) (t.part == 0) refl where
  here : (b : Bool) → eq_by_cmp pair_cmp pair (pair_of t) ≡ b
      → cond b (Some (shape_at ls (pair_of t))) (value_of pair_cmp (held_shapes ls ts) pair)
      ≡ cond b (Some (shape_at ls pair)) (value_of pair_cmp (held_shapes ls ts) pair)
  here true e = ap (λ (q : Pair). Some (shape_at ls q)) (sym (eq_same exact_pairs pair (pair_of t) e))
  here false e = refl

  either : (a b : Bool) (x : Option Shape) → cond a x (cond b x None) ≡ cond (a || b) x None
  either true b x = refl
  either false b x = refl

  go : value_of pair_cmp (held_shapes ls ts) pair
      ≡ cond (contains part_cmp ts (part_of pair 0)) (Some (shape_at ls pair)) None
      → (z : Bool) → (t.part == 0) ≡ z
      → value_of pair_cmp
      (map (λ (u : Part). (pair_of u, shape_at ls (pair_of u)))
      (cond z (t ∷ filter (λ u. u.part == 0) ts) (filter (λ u. u.part == 0) ts))) pair
      ≡ cond (eq_by_cmp part_cmp (part_of pair 0) t || contains part_cmp ts (part_of pair 0)) (Some (shape_at ls pair))
      None
  go h true z =
      here (eq_by_cmp pair_cmp pair (pair_of t)) refl
      ∙ ap (λ (x : Option Shape). cond (eq_by_cmp pair_cmp pair (pair_of t)) (Some (shape_at ls pair)) x) h
      ∙ either (eq_by_cmp pair_cmp pair (pair_of t)) (contains part_cmp ts (part_of pair 0)) (Some (shape_at ls pair))
      ∙ ap (λ (b : Bool). cond (b || contains part_cmp ts (part_of pair 0)) (Some (shape_at ls pair)) None)
      (sym (record_eq pair t (eqb-true t.part 0 z)))
  go h false z =
      h
      ∙ ap (λ (b : Bool). cond (b || contains part_cmp ts (part_of pair 0)) (Some (shape_at ls pair)) None)
      (sym (other_part pair t z))

-- ---- wanted parts

-- the record of a part is held, and what lists it
pub record IsListedIn (ls : Logs) (m : Member) (t : Part) : Type 0 where
  pub with_record : member_holds m (record_of t) ≡ true
  pub with_parent : member_holds m (parent (shape_at ls (pair_of t)) t) ≡ true

-- what is wanted, in parts
pub record IsWanted (ls : Logs) (m : Member) (t : Part) : Type 0 where
  pub known : IsKnown m.known (pair_of t)
  pub counted : t.part ≤ count ls (pair_of t)
  pub with_record : (t.part ≡ 0) ⊎ IsListedIn ls m t
  pub not_held : member_holds m t ≡ false
  pub not_hidden : has_deleted m (pair_of t) ≡ false

known_from : (known : List ℕ) (pair : Pair) → (nat_le 1 pair.1 && nat_le pair.1 (get_or known pair.0 0)) ≡ true
    → IsKnown known pair
known_from known pair h =
    let both : (nat_le 1 pair.1 ≡ true) × (nat_le pair.1 (get_or known pair.0 0) ≡ true) =
    and_parts (nat_le 1 pair.1) _ h in
    record { from_one = leb-true 1 pair.1 both.0; to_known = leb-true pair.1 (get_or known pair.0 0) both.1 }

knows_from : (known : List ℕ) (pair : Pair) → IsKnown known pair
    → (nat_le 1 pair.1 && nat_le pair.1 (get_or known pair.0 0)) ≡ true
knows_from known pair h =
    and_from (nat_le 1 pair.1) _ (le-leb 1 pair.1 h.from_one) (le-leb pair.1 (get_or known pair.0 0) h.to_known)

pub wanted_parts : (ls : Logs) (m : Member) (t : Part) → is_wanted (plan_of ls m) t ≡ true → IsWanted ls m t
wanted_parts ls m t h =
    let w : Changes.IsWanted (plan_of ls m) t = Changes.wanted_parts (plan_of ls m) t h in
    let asked : (Plan.knows (plan_of ls m) (pair_of t) ≡ true)
    × (is_listed_part m.held (shape_of (plan_of ls m) (pair_of t)) t ≡ true) =
    and_parts (Plan.knows (plan_of ls m) (pair_of t)) _ w.asked in
    let can : is_listed_part m.held (cond (member_holds m (record_of t)) (Some (shape_at ls (pair_of t))) None) t
    ≡ true =
    subst (λ (s : Option Shape). is_listed_part m.held s t ≡ true) (received-at ls m.held (pair_of t)) asked.1 in
    let both : (t.part ≤ count ls (pair_of t)) × ((t.part ≡ 0) ⊎ IsListedIn ls m t) =
    received (member_holds m (record_of t)) refl can in
    record {
      known = known_from m.known (pair_of t) asked.0;
      counted = both.0;
      with_record = both.1;
      not_held = w.not_held;
      not_hidden = w.not_hidden;
    } where
      received : (b : Bool) → member_holds m (record_of t) ≡ b
          → is_listed_part m.held (cond b (Some (shape_at ls (pair_of t))) None) t ≡ true
          → (t.part ≤ count ls (pair_of t)) × ((t.part ≡ 0) ⊎ IsListedIn ls m t)
      received true e c = elim (or_cases (t.part == 0) _ c) [
        | inl z ↦ let n : t.part ≡ 0 = eqb-true t.part 0 z in (omega (arith, n), inl n)
        | inr r ↦
            let both : (nat_le t.part (count ls (pair_of t)) ≡ true)
            × (member_holds m (parent (shape_at ls (pair_of t)) t) ≡ true) =
            and_parts (nat_le t.part (count ls (pair_of t))) _ r in (
              leb-true t.part (count ls (pair_of t)) both.0,
              inr (record { with_record = e; with_parent = both.1 }),
            )
      ]
      received false e c = let n : t.part ≡ 0 = eqb-true t.part 0 c in (omega (arith, n), inl n)

pub wanted_from : (ls : Logs) (m : Member) (t : Part) → IsWanted ls m t → is_wanted (plan_of ls m) t ≡ true
wanted_from ls m t w =
    let can : is_listed_part m.held (cond (member_holds m (record_of t)) (Some (shape_at ls (pair_of t))) None) t
    ≡ true =
    asks (member_holds m (record_of t)) refl w.with_record in
    Changes.wanted_from (plan_of ls m) t (record {
      asked =
          and_from (Plan.knows (plan_of ls m) (pair_of t)) _ (knows_from m.known (pair_of t) w.known)
          (subst (λ (s : Option Shape). is_listed_part m.held s t ≡ true)
          (sym (received-at ls m.held (pair_of t))) can);
      not_held = w.not_held;
      not_hidden = w.not_hidden;
    }) where
      asks : (b : Bool) → member_holds m (record_of t) ≡ b → (t.part ≡ 0) ⊎ IsListedIn ls m t
          → is_listed_part m.held (cond b (Some (shape_at ls (pair_of t))) None) t ≡ true
      asks true e h = elim h [
        | inl z ↦ or_left (t.part == 0) _ (eq-eqb t.part 0 z)
        | inr r ↦
            or_right (t.part == 0) _
            (and_from (nat_le t.part (count ls (pair_of t))) _ (le-leb t.part (count ls (pair_of t)) w.counted)
            r.with_parent)
      ]
      asks false e (inl z) = eq-eqb t.part 0 z
      asks false e (inr r) = absurd (true≢false (sym r.with_record ∙ e))
