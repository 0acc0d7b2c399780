-- What a mirror asks for and wants.
use Rattle.std.proofs.Common.{◌≡◌, inl, inr, ℕ, suc, zero, ◌+◌, ◌≤◌, Bool, true, false, cond, ◌&&◌, List, [], ◌∷◌}
use Rattle.std.proofs.Common.{get_or, Option, refl, sym, ap, ◌∙◌, subst, arith}
use Rattle.std.specs.Prelude.{◌==◌}
use Rattle.std.proofs.lemmas.Bool.{true≢false, and_parts, and_from, and_right, or_left, or_cases, or_parts, or_from}
use Rattle.std.proofs.lemmas.Bool.{false_from_ne_true, eq-eqb}
use Rattle.repo_plan.specs.declared.part.Part.{Part}
use Rattle.sorted_lists.specs.SortedList.{contains}
use Rattle.repo_plan.specs.Parts.{Pair, pair_cmp, part_cmp, pair_of, parent}
use Rattle.repo_watch.specs.declared.pattern.Pattern.{Pattern}
use Rattle.repo_watch.specs.Patterns.{is_publisher}
use Rattle.group_model.specs.Publications.{Logs, shape_at}
use Rattle.group_model.specs.Sound.{IsKnown}
use Rattle.group_model.specs.Wanted.{IsWantedPart}
use Rattle.group_model.proofs.Wants.{tests_those}
use Rattle.repo_mirror.specs.Asked.{asked_numbers, is_for}
use Rattle.repo_mirror.specs.Mirrors.{Mirror, mirror_holds, IsWantedByMirror, as_member, IsSoundMirror}
use Rattle.repo_mirror.specs.MirrorLaws.{MirrorsWantThose}

-- ---- the publishers that are asked

asked_at : (asked : Option ℕ) (p : ℕ) (ns : List ℕ) (i : ℕ)
    → get_or (asked_numbers asked p ns) i 0 ≡ cond (is_publisher asked (p + i)) (get_or ns i 0) 0
asked_at asked p [] i = none (is_publisher asked (p + i)) where
  none : (b : Bool) → let z : ℕ = 0 in z ≡ cond b z z
  none true = refl
  none false = refl
asked_at asked p (n ∷ ns) zero = ap (λ (k : ℕ). cond (is_publisher asked k) n 0) (omega arith)
asked_at asked p (n ∷ ns) (suc i) =
    asked_at asked (p + 1) ns i ∙ ap (λ (k : ℕ). cond (is_publisher asked k) (get_or ns i 0) 0) (omega arith)

pub asked_of_publisher : (asked : Option ℕ) (ns : List ℕ) (i : ℕ)
    → get_or (asked_numbers asked 0 ns) i 0 ≡ cond (is_publisher asked i) (get_or ns i 0) 0
asked_of_publisher asked ns i =
    let same : 0 + i ≡ i = omega arith in
    subst (λ (k : ℕ). get_or (asked_numbers asked 0 ns) i 0 ≡ cond (is_publisher asked k) (get_or ns i 0) 0) same
    (asked_at asked 0 ns i)

-- a publication is known to be asked for exactly where it is known, and its publisher is asked
pub asked_known : (asked : Option ℕ) (known : List ℕ) (pair : Pair) → IsKnown (asked_numbers asked 0 known) pair
    → (is_publisher asked pair.0 ≡ true) × IsKnown known pair
asked_known asked known pair k = go (is_publisher asked pair.0) refl (asked_of_publisher asked known pair.0) where
  go : (b : Bool) → is_publisher asked pair.0 ≡ b
      → get_or (asked_numbers asked 0 known) pair.0 0 ≡ cond (is_publisher asked pair.0) (get_or known pair.0 0) 0
      → (is_publisher asked pair.0 ≡ true) × IsKnown known pair
  go true e h =
      let at : get_or (asked_numbers asked 0 known) pair.0 0 ≡ get_or known pair.0 0 =
      h ∙ ap (λ (b : Bool). cond b (get_or known pair.0 0) 0) e in
      (e, record { from_one = k.from_one; to_known = subst (λ (n : ℕ). pair.1 ≤ n) at k.to_known })
  go false e h =
      let at : get_or (asked_numbers asked 0 known) pair.0 0 ≡ 0 =
      h ∙ ap (λ (b : Bool). cond b (get_or known pair.0 0) 0) e in
      absurd (omega (arith, k.from_one, k.to_known, at))

pub known_asked : (asked : Option ℕ) (known : List ℕ) (pair : Pair) → is_publisher asked pair.0 ≡ true
    → IsKnown known pair → IsKnown (asked_numbers asked 0 known) pair
known_asked asked known pair e k =
    let at : get_or (asked_numbers asked 0 known) pair.0 0 ≡ get_or known pair.0 0 =
    asked_of_publisher asked known pair.0 ∙ ap (λ (b : Bool). cond b (get_or known pair.0 0) 0) e in
    record { from_one = k.from_one; to_known = subst (λ (n : ℕ). pair.1 ≤ n) (sym at) k.to_known }

module _ (pattern : Pattern) (ls : Logs) (m : Mirror) (sound : IsSoundMirror pattern ls m) where
  -- what is asked for was not passed over
  not_passed : (pair : Pair) → is_for pattern ls pair ≡ true → contains pair_cmp m.passed pair ≡ false
  not_passed pair a =
      false_from_ne_true (contains pair_cmp m.passed pair)
      (λ h. true≢false (sym a ∙ (sound.passed pair h).not_accepted))

  -- a held part of a publication that the pattern is for is kept
  pub held_kept : (t : Part) → is_for pattern ls (pair_of t) ≡ true → mirror_holds m t ≡ true
      → contains part_cmp m.kept t ≡ true
  held_kept t a h =
      elim (or_cases (contains part_cmp m.kept t) (t.part == 0 && contains pair_cmp m.passed (pair_of t)) h) [
        | inl k ↦ k
        | inr p ↦
            absurd (true≢false
            (sym (and_parts (t.part == 0) (contains pair_cmp m.passed (pair_of t)) p).1 ∙ not_passed (pair_of t) a))
      ]

  pub kept_held : (t : Part) → contains part_cmp m.kept t ≡ true → mirror_holds m t ≡ true
  kept_held t h = or_left (contains part_cmp m.kept t) (t.part == 0 && contains pair_cmp m.passed (pair_of t)) h

  -- ---- what it wants

  wants : (t : Part) → IsWantedPart ls (as_member pattern m) t → IsWantedByMirror pattern ls m t
  wants t h =
      let k : (is_publisher pattern.publisher t.publisher ≡ true) × IsKnown m.known (pair_of t) =
      asked_known pattern.publisher m.known (pair_of t) h.known in
      record {
        known = k.1;
        publisher = k.0;
        part = elim h.part [
          | inl z ↦ inl z
          | inr s ↦ inr (record {
            from_one = s.from_one;
            counted = s.counted;
            with_parent = kept_held (parent (shape_at ls (pair_of t)) t) s.with_parent;
            accepted = (sound.kept (parent (shape_at ls (pair_of t)) t) s.with_parent).accepted;
          })
        ];
        not_held =
            or_from (contains part_cmp m.kept t) (t.part == 0 && contains pair_cmp m.passed (pair_of t)) h.not_held
            (and_right (t.part == 0) (contains pair_cmp m.passed (pair_of t)) h.not_hidden);
      }

  not_hidden : (t : Part) → IsWantedByMirror pattern ls m t → contains pair_cmp m.passed (pair_of t) ≡ false
  not_hidden t h = elim h.part [
    | inl z ↦
        false_from_ne_true (contains pair_cmp m.passed (pair_of t)) (λ p.
        true≢false (sym (and_from (t.part == 0) (contains pair_cmp m.passed (pair_of t)) (eq-eqb t.part 0 z) p)
        ∙ (or_parts (contains part_cmp m.kept t) (t.part == 0 && contains pair_cmp m.passed (pair_of t)) h.not_held).1))
    | inr s ↦ not_passed (pair_of t) s.accepted
  ]

  wanted_so : (t : Part) → IsWantedByMirror pattern ls m t → IsWantedPart ls (as_member pattern m) t
  wanted_so t h = record {
    known = known_asked pattern.publisher m.known (pair_of t) h.publisher h.known;
    part = elim h.part [
      | inl z ↦ inl z
      | inr s ↦ inr (record {
        from_one = s.from_one;
        counted = s.counted;
        with_parent = held_kept (parent (shape_at ls (pair_of t)) t) s.accepted s.with_parent;
      })
    ];
    not_held =
        (or_parts (contains part_cmp m.kept t) (t.part == 0 && contains pair_cmp m.passed (pair_of t)) h.not_held).0;
    not_hidden = not_hidden t h;
  }

pub want_those : MirrorsWantThose
want_those pattern ls m t s =
    let tests = tests_those ls (as_member pattern m) t (λ u h. (s.kept u h).with_record) in (
      λ h. wants pattern ls m s t (tests.0 h),
      λ h. tests.1 (wanted_so pattern ls m s t h),
    )
