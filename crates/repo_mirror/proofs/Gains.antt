-- What a mirror makes of a part that it receives.
use Rattle.std.proofs.Common.{◌≡◌, inl, inr, ℕ, ◌≤◌, Bool, true, false, cond, ◌&&◌, ◌||◌, refl, sym, ap, ◌∙◌, subst}
use Rattle.std.proofs.Common.{arith}
use Rattle.std.specs.Prelude.{◌==◌}
use Rattle.std.specs.Ordering.{eq_by_cmp}
use Rattle.std.proofs.lemmas.Bool.{true≢false, or_right, or_cases, eqb-true, eq-eqb}
use Rattle.repo_plan.specs.declared.part.Part.{Part}
use Rattle.sorted_lists.specs.SortedList.{contains, insert_key}
use Rattle.repo_plan.specs.Parts.{pair_cmp, part_cmp, pair_of, part_of, record_of, parent}
use Rattle.repo_plan.proofs.Orders.{exact_parts, exact_pairs}
use Rattle.sorted_lists.proofs.Sets.{eq_same, eq_itself, contains-insert_key}
use Rattle.repo_watch.specs.declared.pattern.Pattern.{Pattern}
use Rattle.group_model.specs.Publications.{Logs, shape_at, count}
use Rattle.group_model.proofs.Parents.{record_lists_itself}
use Rattle.repo_mirror.specs.Asked.{is_for}
use Rattle.repo_mirror.specs.Mirrors.{Mirror, mirror_holds, IsWantedByMirror, IsKeptSoundly, IsPassedSoundly}
use Rattle.repo_mirror.specs.Mirrors.{IsSoundMirror, mirror_gains}
use Rattle.repo_mirror.specs.MirrorLaws.{GainsPart, MirrorsGain}
use Rattle.repo_mirror.proofs.Wants.{held_kept}

module _ (pattern : Pattern) (ls : Logs) (m : Mirror) (t : Part) (sound : IsSoundMirror pattern ls m)
    (wanted : IsWantedByMirror pattern ls m t) where
  abbrev kept_too : Mirror
  kept_too = record m { kept = insert_key part_cmp t m.kept }

  abbrev passed_too : Mirror
  passed_too = record m { passed = insert_key pair_cmp (pair_of t) m.passed }

  more_kept : (u : Part) → contains part_cmp m.kept u ≡ true → contains part_cmp kept_too.kept u ≡ true
  more_kept u h =
      contains-insert_key exact_parts t m.kept u ∙ or_right (eq_by_cmp part_cmp u t) (contains part_cmp m.kept u) h

  new_kept : contains part_cmp kept_too.kept t ≡ true
  new_kept =
      contains-insert_key exact_parts t m.kept t
      ∙ ap (λ (b : Bool). b || contains part_cmp m.kept t) (eq_itself exact_parts t)

  -- ---- of what is asked for

  counted : t.part ≤ count ls (pair_of t)
  counted = elim wanted.part [ inl z ↦ omega (arith, z) | inr s ↦ s.counted ]

  parent_kept : is_for pattern ls (pair_of t) ≡ true
      → contains part_cmp kept_too.kept (parent (shape_at ls (pair_of t)) t) ≡ true
  parent_kept a = elim wanted.part [
    | inl z ↦
        subst (λ (u : Part). contains part_cmp kept_too.kept u ≡ true)
        (sym (record_lists_itself (shape_at ls (pair_of t)) t z)) new_kept
    | inr s ↦
        more_kept (parent (shape_at ls (pair_of t)) t)
        (held_kept pattern ls m sound (parent (shape_at ls (pair_of t)) t) a s.with_parent)
  ]

  record_kept : is_for pattern ls (pair_of t) ≡ true → contains part_cmp kept_too.kept (record_of t) ≡ true
  record_kept a = elim wanted.part [
    | inl z ↦
        subst (λ (u : Part). contains part_cmp kept_too.kept u ≡ true)
        (ap (λ (x : ℕ). part_of (pair_of t) x) z) new_kept
    | inr s ↦
        more_kept (record_of t)
        (sound.kept (parent (shape_at ls (pair_of t)) t)
        (held_kept pattern ls m sound (parent (shape_at ls (pair_of t)) t) a s.with_parent)).with_record
  ]

  keeps : is_for pattern ls (pair_of t) ≡ true → IsSoundMirror pattern ls kept_too
  keeps a = record {
    kept = λ u h.
        elim (or_cases (eq_by_cmp part_cmp u t) (contains part_cmp m.kept u)
        (sym (contains-insert_key exact_parts t m.kept u) ∙ h)) [
          | inl e ↦
              subst (IsKeptSoundly pattern ls kept_too) (sym (eq_same exact_parts u t e)) (record {
                known = wanted.known;
                publisher = wanted.publisher;
                counted = counted;
                with_record = record_kept a;
                with_parent = parent_kept a;
                accepted = a;
              })
          | inr o ↦
              let s : IsKeptSoundly pattern ls m u = sound.kept u o in
              record {
                known = s.known;
                publisher = s.publisher;
                counted = s.counted;
                with_record = more_kept (record_of u) s.with_record;
                with_parent = more_kept (parent (shape_at ls (pair_of u)) u) s.with_parent;
                accepted = s.accepted;
              }
        ];
    passed = λ pair h.
        let s : IsPassedSoundly pattern ls m pair = sound.passed pair h in
        record { known = s.known; publisher = s.publisher; not_accepted = s.not_accepted };
  }

  -- ---- of another

  passes : is_for pattern ls (pair_of t) ≡ false → IsSoundMirror pattern ls passed_too
  passes a = record {
    kept = λ u h.
        let s : IsKeptSoundly pattern ls m u = sound.kept u h in
        record {
          known = s.known;
          publisher = s.publisher;
          counted = s.counted;
          with_record = s.with_record;
          with_parent = s.with_parent;
          accepted = s.accepted;
        };
    passed = λ pair h.
        elim (or_cases (eq_by_cmp pair_cmp pair (pair_of t)) (contains pair_cmp m.passed pair)
        (sym (contains-insert_key exact_pairs (pair_of t) m.passed pair) ∙ h)) [
          | inl e ↦
              subst (IsPassedSoundly pattern ls passed_too) (sym (eq_same exact_pairs pair (pair_of t) e))
              (record { known = wanted.known; publisher = wanted.publisher; not_accepted = a })
          | inr o ↦
              let s : IsPassedSoundly pattern ls m pair = sound.passed pair o in
              record { known = s.known; publisher = s.publisher; not_accepted = s.not_accepted }
        ];
  }

  -- it is a record
  is_record : is_for pattern ls (pair_of t) ≡ false → t.part ≡ 0
  is_record a = elim wanted.part [ inl z ↦ z | inr s ↦ absurd (true≢false (sym s.accepted ∙ a)) ]

  holds_kept : (u : Part) → mirror_holds kept_too u ≡ (eq_by_cmp part_cmp u t || mirror_holds m u)
  holds_kept u =
      ap (λ (b : Bool). b || (u.part == 0 && contains pair_cmp m.passed (pair_of u)))
      (contains-insert_key exact_parts t m.kept u)
      ∙ either (eq_by_cmp part_cmp u t) (contains part_cmp m.kept u)
      (u.part == 0 && contains pair_cmp m.passed (pair_of u))
    where
      either : (x y z : Bool) → ((x || y) || z) ≡ (x || (y || z))
      either true y z = refl
      either false y z = refl

  holds_passed : is_for pattern ls (pair_of t) ≡ false → (u : Part)
      → mirror_holds passed_too u ≡ (eq_by_cmp part_cmp u t || mirror_holds m u)
  holds_passed a u =
      ap (λ (b : Bool). contains part_cmp m.kept u || (u.part == 0 && b))
      (contains-insert_key exact_pairs (pair_of t) m.passed (pair_of u))
      ∙ go (u.part == 0) refl (eq_by_cmp pair_cmp (pair_of u) (pair_of t)) refl (eq_by_cmp part_cmp u t) refl
      (contains part_cmp m.kept u) (contains pair_cmp m.passed (pair_of u)) where
        same : u.part ≡ 0 → eq_by_cmp pair_cmp (pair_of u) (pair_of t) ≡ true → eq_by_cmp part_cmp u t ≡ true
        same z e =
            let pair : pair_of u ≡ pair_of t = eq_same exact_pairs (pair_of u) (pair_of t) e in
            let part : u.part ≡ t.part = z ∙ sym (is_record a) in
            let one : u ≡ t = λ i. part_of (pair i) (part i) in
            ap (eq_by_cmp part_cmp u) (sym one) ∙ eq_itself exact_parts u

        alike : eq_by_cmp part_cmp u t ≡ true → (u.part ≡ 0) × (eq_by_cmp pair_cmp (pair_of u) (pair_of t) ≡ true)
        alike e =
            let one : u ≡ t = eq_same exact_parts u t e in (
              ap (λ (x : Part). x.part) one ∙ is_record a,
              ap (λ (x : Part). eq_by_cmp pair_cmp (pair_of u) (pair_of x)) (sym one)
                  ∙ eq_itself exact_pairs (pair_of u),
            )

        go : (z : Bool) → (u.part == 0) ≡ z → (p : Bool) → eq_by_cmp pair_cmp (pair_of u) (pair_of t) ≡ p
            → (e : Bool) → eq_by_cmp part_cmp u t ≡ e → (k h : Bool)
            → (k || (z && (p || h))) ≡ (e || (k || (z && h)))
        go true nought true pe true ee k h = left k where
          left : (x : Bool) → (x || true) ≡ true
          left true = refl
          left false = refl
        go true nought true pe false ee k h = absurd (true≢false (sym (same (eqb-true u.part 0 nought) pe) ∙ ee))
        go true nought false pe true ee k h = absurd (true≢false (sym (alike ee).1 ∙ pe))
        go true nought false pe false ee k h = refl
        go false nought p pe true ee k h = absurd (true≢false (sym (eq-eqb u.part 0 (alike ee).0) ∙ nought))
        go false nought p pe false ee k h = refl

  gained : GainsPart pattern ls t m
  gained = go (is_for pattern ls (pair_of t)) refl where
    go : (b : Bool) → is_for pattern ls (pair_of t) ≡ b → GainsPart pattern ls t m
    go true a =
        let new : mirror_gains pattern ls t m ≡ kept_too = ap (λ (b : Bool). cond b kept_too passed_too) a in
        record {
          sound = subst (IsSoundMirror pattern ls) (sym new) (keeps a);
          held = λ u. ap (λ (n : Mirror). mirror_holds n u) new ∙ holds_kept u;
        }
    go false a =
        let new : mirror_gains pattern ls t m ≡ passed_too = ap (λ (b : Bool). cond b kept_too passed_too) a in
        record {
          sound = subst (IsSoundMirror pattern ls) (sym new) (passes a);
          held = λ u. ap (λ (n : Mirror). mirror_holds n u) new ∙ holds_passed a u;
        }

pub gain : MirrorsGain
gain pattern ls m t s h = gained pattern ls m t s h

pub gains_known : (pattern : Pattern) (ls : Logs) (t : Part) (m : Mirror)
    → (mirror_gains pattern ls t m).known ≡ m.known
gains_known pattern ls t m = go (is_for pattern ls (pair_of t)) where
  go : (b : Bool)
      → (cond b (record m { kept = insert_key part_cmp t m.kept })
      (record m { passed = insert_key pair_cmp (pair_of t) m.passed })).known
      ≡ m.known
  go true = refl
  go false = refl
