-- What a mirror gains in a settle.
use Rattle.std.proofs.Common.{◌≡◌, inl, inr, ℕ, Bool, true, false, cond, ◌&&◌, ◌||◌, List, [], ◌∷◌, ◌++◌, length, refl}
use Rattle.std.proofs.Common.{sym, ap, ◌∙◌, subst, arith}
use Rattle.std.specs.Prelude.{◌==◌}
use Rattle.std.specs.Ordering.{eq_by_cmp}
use Rattle.std.proofs.lemmas.Bool.{true≢false, and_parts, or_left, or_right, or_cases, or_from, false_from_ne_true}
use Rattle.std.proofs.lemmas.Bool.{cases_Bool, eqb-true, eqb-false, eq-eqb}
use Rattle.repo_plan.specs.declared.part.Part.{Part}
use Rattle.sorted_lists.specs.SortedList.{contains}
use Rattle.repo_plan.specs.Parts.{pair_cmp, part_cmp, pair_of, part_of, record_of, parent, parent_number}
use Rattle.repo_plan.proofs.Orders.{exact_parts}
use Rattle.sorted_lists.proofs.Sets.{In, in_contains, eq_same, eq_itself}
use Rattle.repo_object.specs.Objects.{contents_of}
use Rattle.repo_watch.specs.declared.pattern.Pattern.{Pattern}
use Rattle.repo_watch.specs.Patterns.{is_publisher}
use Rattle.group_model.specs.Publications.{Logs, shape_at, post_at}
use Rattle.group_model.specs.Member.{Member}
use Rattle.group_model.specs.World.{someone_holds}
use Rattle.group_model.specs.Sound.{IsKnown}
use Rattle.group_model.proofs.Parents.{parent_of_parent}
use Rattle.repo_mirror.specs.Mirrors.{Mirror, mirror_holds, IsWantedByMirror, IsKeptSoundly, IsPassedSoundly}
use Rattle.repo_mirror.specs.Mirrors.{IsSoundMirror, mirror_gains, mirror_gains_all, ComeInTurn, path_to, unless_held}
use Rattle.repo_mirror.specs.MirrorLaws.{GainsPart, WantsNothingHeld, SettledHoldThose, IsGathering}
use Rattle.repo_mirror.specs.MirrorLaws.{GatheringGainsThose}
use Rattle.repo_mirror.proofs.Gains.{gain, gains_known}

-- what one holds the other does
abbrev HoldsLess : Mirror → Mirror → Type 0
HoldsLess a b = (u : Part) → mirror_holds a u ≡ true → mirror_holds b u ≡ true

module _ (pattern : Pattern) (ls : Logs) (members : List Member) where
  -- ---- all that comes

  kept_by_all : (came : List Part) (m : Mirror) → IsSoundMirror pattern ls m → ComeInTurn pattern ls members came m
      → HoldsLess m (mirror_gains_all pattern ls came m)
  kept_by_all [] m s c u h = h
  kept_by_all (t ∷ ts) m s c u h =
      let g : GainsPart pattern ls t m = gain pattern ls m t s c.0 in
      kept_by_all ts (mirror_gains pattern ls t m) g.sound c.2 u
      (g.held u ∙ or_right (eq_by_cmp part_cmp u t) (mirror_holds m u) h)

  known_by_all : (came : List Part) (m : Mirror) → (mirror_gains_all pattern ls came m).known ≡ m.known
  known_by_all [] m = refl
  known_by_all (t ∷ ts) m = known_by_all ts (mirror_gains pattern ls t m) ∙ gains_known pattern ls t m

  -- what one wants, the other, that holds more and knows as much, wants or holds
  still : (a b : Mirror) (t : Part) → a.known ≡ b.known → HoldsLess a b → IsWantedByMirror pattern ls a t
      → mirror_holds b t ≡ false → IsWantedByMirror pattern ls b t
  still a b t same less h free = record {
    known = subst (λ (v : List ℕ). IsKnown v (pair_of t)) same h.known;
    publisher = h.publisher;
    part = elim h.part [
      | inl z ↦ inl z
      | inr s ↦ inr (record {
        from_one = s.from_one;
        counted = s.counted;
        with_parent = less (parent (shape_at ls (pair_of t)) t) s.with_parent;
        accepted = s.accepted;
      })
    ];
    not_held = free;
  }

  all_held : (last : Mirror) → WantsNothingHeld pattern ls members last → (any : List Part) (m : Mirror)
      → IsSoundMirror pattern ls m → m.known ≡ last.known → HoldsLess m last → ComeInTurn pattern ls members any m
      → (t : Part) → In t any → mirror_holds last t ≡ true
  all_held last rest [] m s same less c t i = absurd i
  all_held last rest (u ∷ us) m s same less c t i =
      let here : mirror_holds last u ≡ true = elim (cases_Bool (mirror_holds last u)) [
        | inl h ↦ h
        | inr free ↦ absurd (true≢false (sym c.1 ∙ rest u (still m last u same less c.0 free)))
      ] in
      let g : GainsPart pattern ls u m = gain pattern ls m u s c.0 in
      elim i [
        | inl e ↦ subst (λ (x : Part). mirror_holds last x ≡ true) (sym e) here
        | inr more ↦
            all_held last rest us (mirror_gains pattern ls u m) g.sound (gains_known pattern ls u m ∙ same) (λ x h.
            elim (or_cases (eq_by_cmp part_cmp x u) (mirror_holds m x) (sym (g.held x) ∙ h)) [
              | inl e ↦ subst (λ (y : Part). mirror_holds last y ≡ true) (sym (eq_same exact_parts x u e)) here
              | inr o ↦ less x o
            ]) c.2 t more
      ]

pub settled : SettledHoldThose
settled pattern ls members m came s c rest any a t i =
    all_held pattern ls members (mirror_gains_all pattern ls came m) rest any m s
    (sym (known_by_all pattern ls members came m)) (kept_by_all pattern ls members came m s c) a t
    (in_contains exact_parts any t i)

-- ---- exactly

module _ (pattern : Pattern) (ls : Logs) (members : List Member) (m new : Mirror) (sound : IsSoundMirror pattern ls m)
    (g : IsGathering pattern ls members m new) where
  -- what is held in the end is of a known publication of a publisher that is asked
  of_known : (t : Part) → mirror_holds new t ≡ true
      → IsKnown m.known (pair_of t) × (is_publisher pattern.publisher t.publisher ≡ true)
  of_known t h =
      elim (or_cases (contains part_cmp new.kept t) (t.part == 0 && contains pair_cmp new.passed (pair_of t)) h) [
        | inl k ↦
            let s : IsKeptSoundly pattern ls new t = g.sound.kept t k in
            (subst (λ (v : List ℕ). IsKnown v (pair_of t)) g.known s.known, s.publisher)
        | inr p ↦
            let s : IsPassedSoundly pattern ls new (pair_of t) =
            g.sound.passed (pair_of t) (and_parts (t.part == 0) (contains pair_cmp new.passed (pair_of t)) p).1 in
            (subst (λ (v : List ℕ). IsKnown v (pair_of t)) g.known s.known, s.publisher)
      ]

  lent : (t : Part) → mirror_holds new t ≡ true → mirror_holds m t ≡ false → someone_holds members t ≡ true
  lent t h free = elim (g.came t h) [ inl o ↦ absurd (true≢false (sym o ∙ free)) | inr s ↦ s ]

  record_wanted : (t : Part) → t.part ≡ 0 → mirror_holds new t ≡ true → mirror_holds m t ≡ false
      → IsWantedByMirror pattern ls m t
  record_wanted t z h free =
      let k : IsKnown m.known (pair_of t) × (is_publisher pattern.publisher t.publisher ≡ true) = of_known t h in
      record { known = k.0; publisher = k.1; part = inl z; not_held = free }

  -- what is held in the end, and isn't a record, is kept
  after_stored : (t : Part) → (t.part == 0) ≡ false → mirror_holds new t ≡ true → contains part_cmp new.kept t ≡ true
  after_stored t s h =
      elim (or_cases (contains part_cmp new.kept t) (t.part == 0 && contains pair_cmp new.passed (pair_of t)) h) [
        | inl k ↦ k
        | inr p ↦
            absurd (true≢false (sym (and_parts (t.part == 0) (contains pair_cmp new.passed (pair_of t)) p).0 ∙ s))
      ]

  -- a part after the record that `new` holds is wanted where the part that lists it is held
  part_wanted : (t : Part) → (t.part == 0) ≡ false → mirror_holds new t ≡ true → (a : Mirror) → a.known ≡ m.known
      → mirror_holds a (parent (shape_at ls (pair_of t)) t) ≡ true → mirror_holds a t ≡ false
      → IsWantedByMirror pattern ls a t
  part_wanted t s h a same listed free =
      let k : IsKnown m.known (pair_of t) × (is_publisher pattern.publisher t.publisher ≡ true) = of_known t h in
      let kept : IsKeptSoundly pattern ls new t = g.sound.kept t (after_stored t s h) in
      let above = eqb-false t.part 0 s in
      record {
        known = subst (λ (v : List ℕ). IsKnown v (pair_of t)) (sym same) k.0;
        publisher = k.1;
        part = inr (record {
          from_one = omega (arith, above);
          counted = kept.counted;
          with_parent = listed;
          accepted = kept.accepted;
        });
        not_held = free;
      }

  -- a part that isn't held isn't held after another one is gained, either
  still_free : (r t : Part) (x : Mirror) (gained : GainsPart pattern ls r x) → (r.part == t.part) ≡ false
      → mirror_holds x t ≡ false → mirror_holds (mirror_gains pattern ls r x) t ≡ false
  still_free r t x gained other free =
      gained.held t
      ∙ or_from (eq_by_cmp part_cmp t r) (mirror_holds x t)
      (false_from_ne_true (eq_by_cmp part_cmp t r) (λ e.
      true≢false
      (sym (eq-eqb r.part t.part (sym (ap (λ (y : Part). y.part) (eq_same exact_parts t r e)))) ∙ other))) free

  gains_it : (r : Part) (x : Mirror) (gained : GainsPart pattern ls r x)
      → mirror_holds (mirror_gains pattern ls r x) r ≡ true
  gains_it r x gained =
      gained.held r ∙ or_left (eq_by_cmp part_cmp r r) (mirror_holds x r) (eq_itself exact_parts r)

  module _ (t : Part) (h : mirror_holds new t ≡ true) (free : mirror_holds m t ≡ false)
      (s : (t.part == 0) ≡ false) where
    abbrev lists_it : Part
    lists_it = parent (shape_at ls (pair_of t)) t

    kept_last : IsKeptSoundly pattern ls new t
    kept_last = g.sound.kept t (after_stored t s h)

    record_new : mirror_holds new (record_of t) ≡ true
    record_new =
        or_left (contains part_cmp new.kept (record_of t)) (true && contains pair_cmp new.passed (pair_of t))
        kept_last.with_record

    parent_new : mirror_holds new lists_it ≡ true
    parent_new =
        or_left (contains part_cmp new.kept lists_it)
        (lists_it.part == 0 && contains pair_cmp new.passed (pair_of t)) kept_last.with_parent

    not_record : (0 == t.part) ≡ false
    not_record = false_from_ne_true (0 == t.part) (λ e. eqb-false t.part 0 s (sym (eqb-true 0 t.part e)))

    -- the part itself, once what lists it is held
    last_comes : (a : Mirror) → a.known ≡ m.known → mirror_holds a lists_it ≡ true → mirror_holds a t ≡ false
        → ComeInTurn pattern ls members (t ∷ []) a
    last_comes a same listed free_a = (part_wanted t s h a same listed free_a, lent t h free, tt)

    -- where the record lists it
    by_record : parent_number (shape_at ls (pair_of t)) t.part ≡ 0
        → ComeInTurn pattern ls members (unless_held m (record_of t) ++ t ∷ []) m
    by_record first = go (mirror_holds m (record_of t)) refl where
      same : lists_it ≡ record_of t
      same = ap (part_of (pair_of t)) first

      go : (b : Bool) → mirror_holds m (record_of t) ≡ b
          → ComeInTurn pattern ls members (cond b [] (record_of t ∷ []) ++ t ∷ []) m
      go true r = last_comes m refl (ap (mirror_holds m) same ∙ r) free
      go false r =
          let want : IsWantedByMirror pattern ls m (record_of t) = record_wanted (record_of t) refl record_new r in
          let gained : GainsPart pattern ls (record_of t) m = gain pattern ls m (record_of t) sound want in
          let next : Mirror = mirror_gains pattern ls (record_of t) m in (
            want,
            lent (record_of t) record_new r,
            last_comes next (gains_known pattern ls (record_of t) m)
                (ap (mirror_holds next) same ∙ gains_it (record_of t) m gained)
                (still_free (record_of t) t m gained not_record free),
          )

    -- where an index packet lists it
    module _ (other : (parent_number (shape_at ls (pair_of t)) t.part == 0) ≡ false) where
      grandparent : parent (shape_at ls (pair_of t)) lists_it ≡ record_of t
      grandparent =
          ap (part_of (pair_of t))
          (parent_of_parent (length (contents_of (post_at ls (pair_of t)))) t.part kept_last.counted)

      not_parent : (lists_it.part == t.part) ≡ false
      not_parent = false_from_ne_true (lists_it.part == t.part) (λ e.
          let at : lists_it.part ≡ t.part = eqb-true lists_it.part t.part e in
          let first : parent_number (shape_at ls (pair_of t)) lists_it.part ≡ 0 =
          parent_of_parent (length (contents_of (post_at ls (pair_of t)))) t.part kept_last.counted in
          eqb-false (parent_number (shape_at ls (pair_of t)) t.part) 0 other
          (sym (ap (parent_number (shape_at ls (pair_of t))) at) ∙ first))

      not_first : (0 == lists_it.part) ≡ false
      not_first = false_from_ne_true (0 == lists_it.part) (λ e.
          eqb-false lists_it.part 0 other (sym (eqb-true 0 lists_it.part e)))

      -- the index packet and the part, once the record is held
      two_come : (a : Mirror) → IsSoundMirror pattern ls a → a.known ≡ m.known
          → mirror_holds a (record_of t) ≡ true → mirror_holds a t ≡ false
          → mirror_holds a lists_it ≡ mirror_holds m lists_it
          → ComeInTurn pattern ls members (unless_held m lists_it ++ t ∷ []) a
      two_come a ok same r free_a alike = go (mirror_holds m lists_it) refl where
        go : (b : Bool) → mirror_holds m lists_it ≡ b
            → ComeInTurn pattern ls members (cond b [] (lists_it ∷ []) ++ t ∷ []) a
        go true p = last_comes a same (alike ∙ p) free_a
        go false p =
            let want : IsWantedByMirror pattern ls a lists_it =
            part_wanted lists_it other parent_new a same (ap (mirror_holds a) grandparent ∙ r) (alike ∙ p) in
            let gained : GainsPart pattern ls lists_it a = gain pattern ls a lists_it ok want in (
              want,
              lent lists_it parent_new p,
              last_comes (mirror_gains pattern ls lists_it a) (gains_known pattern ls lists_it a ∙ same)
                  (gains_it lists_it a gained) (still_free lists_it t a gained not_parent free_a),
            )

      by_index : ComeInTurn pattern ls members (unless_held m (record_of t) ++ (unless_held m lists_it ++ t ∷ [])) m
      by_index = go (mirror_holds m (record_of t)) refl where
        go : (b : Bool) → mirror_holds m (record_of t) ≡ b
            → ComeInTurn pattern ls members (cond b [] (record_of t ∷ []) ++ (unless_held m lists_it ++ t ∷ [])) m
        go true r = two_come m sound refl r free refl
        go false r =
            let want : IsWantedByMirror pattern ls m (record_of t) = record_wanted (record_of t) refl record_new r in
            let gained : GainsPart pattern ls (record_of t) m = gain pattern ls m (record_of t) sound want in (
              want,
              lent (record_of t) record_new r,
              two_come (mirror_gains pattern ls (record_of t) m) gained.sound (gains_known pattern ls (record_of t) m)
                  (gains_it (record_of t) m gained) (still_free (record_of t) t m gained not_record free)
                  (alike gained),
            ) where
              alike : GainsPart pattern ls (record_of t) m
                  → mirror_holds (mirror_gains pattern ls (record_of t) m) lists_it ≡ mirror_holds m lists_it
              alike gained =
                  gained.held lists_it
                  ∙ ap (λ (b : Bool). b || mirror_holds m lists_it)
                  (false_from_ne_true (eq_by_cmp part_cmp lists_it (record_of t)) (λ e.
                  eqb-false lists_it.part 0 other
                  (ap (λ (y : Part). y.part) (eq_same exact_parts lists_it (record_of t) e))))

  path : (t : Part) → mirror_holds new t ≡ true → mirror_holds m t ≡ false
      → ComeInTurn pattern ls members (path_to ls m t) m
  path t h free = go (t.part == 0) refl where
    go : (z : Bool) → (t.part == 0) ≡ z
        → ComeInTurn pattern ls members
        (cond z (t ∷ [])
        (cond (parent_number (shape_at ls (pair_of t)) t.part == 0) (unless_held m (record_of t) ++ t ∷ [])
        (unless_held m (record_of t) ++ (unless_held m (parent (shape_at ls (pair_of t)) t) ++ t ∷ [])))) m
    go true e = (record_wanted t (eqb-true t.part 0 e) h free, lent t h free, tt)
    go false e = listed (parent_number (shape_at ls (pair_of t)) t.part == 0) refl where
      listed : (z : Bool) → (parent_number (shape_at ls (pair_of t)) t.part == 0) ≡ z
          → ComeInTurn pattern ls members
          (cond z (unless_held m (record_of t) ++ t ∷ [])
          (unless_held m (record_of t) ++ (unless_held m (parent (shape_at ls (pair_of t)) t) ++ t ∷ []))) m
      listed true p = by_record t h free e (eqb-true (parent_number (shape_at ls (pair_of t)) t.part) 0 p)
      listed false p = by_index t h free e p

pub exactly : GatheringGainsThose
exactly pattern ls members m new s g = record {
  only = λ t h free. path pattern ls members m new s g t h free;
  all = λ rest any a t i.
      all_held pattern ls members new rest any m s (sym g.known) g.kept a t (in_contains exact_parts any t i);
}
