-- What a mirror that has come to rest holds: each part that a member holds of a publisher that it asks, unless it
-- passed the publication over.
use Rattle.std.proofs.Common.{◌≡◌, ◌⊎◌, inl, inr, ℕ, ◌≤◌, ◌<◌, Bool, true, false, length, get_or, refl, sym, ap}
use Rattle.std.proofs.Common.{◌∙◌, arith}
use Rattle.std.specs.Prelude.{◌==◌, ◌&&◌}
use Rattle.std.proofs.lemmas.Bool.{true≢false, or_cases, cases_Bool, eqb-true, eqb-false}
use Rattle.repo_plan.specs.declared.part.Part.{Part}
use Rattle.sorted_lists.specs.SortedList.{contains}
use Rattle.repo_plan.specs.Parts.{pair_cmp, part_cmp, pair_of, part_of, record_of, parent_number}
use Rattle.repo_object.specs.Objects.{contents_of}
use Rattle.repo_watch.specs.declared.pattern.Pattern.{Pattern}
use Rattle.repo_watch.specs.Patterns.{is_publisher}
use Rattle.group_model.specs.Publications.{post_at, shape_at, count}
use Rattle.group_model.specs.Member.{member_holds}
use Rattle.group_model.specs.World.{World, member, logs, someone_holds}
use Rattle.group_model.specs.Steps.{settled_vector}
use Rattle.group_model.specs.Sound.{IsSoundGroup, IsKnown, IsHeldSoundly}
use Rattle.group_model.proofs.Parents.{parent_within, parent_of_parent}
use Rattle.group_model.proofs.Settles.{knows_settled}
use Rattle.repo_mirror.specs.Asked.{is_for}
use Rattle.repo_mirror.specs.Mirrors.{Mirror, mirror_holds, IsPartAskedFor, IsSoundMirror}
use Rattle.repo_mirror.specs.MirrorLaws.{WantsNothingHeld}
use Rattle.bench_world.proofs.Lacking.{here_someone, at_holder}

module _ (pattern : Pattern) (w : World) (group : IsSoundGroup w) (m : Mirror)
    (sound : IsSoundMirror pattern (logs w) m)
    (known : (p : ℕ) → get_or (settled_vector w) p 0 ≤ get_or m.known p 0)
    (rest : WantsNothingHeld pattern (logs w) w.members m) (t : Part)
    (asked : is_publisher pattern.publisher t.publisher ≡ true) where
  -- a member at a place holds the part
  module _ (k : ℕ) (inside : k < length w.members) (held : member_holds (member w k) t ≡ true) where
    soundly : IsHeldSoundly (logs w) (member w k).known (member w k).held t
    soundly = (group.members k inside).held t held

    known_too : IsKnown m.known (pair_of t)
    known_too =
        let far : t.seq ≤ get_or (member w k).known t.publisher 0 = soundly.known.to_known in
        let received = knows_settled w group k inside k t.publisher inside in
        let all = known t.publisher in
        record { from_one = soundly.known.from_one; to_known = omega (arith, far, received, all) }

    -- what could come of its publication is held
    comes : (x : ℕ) → member_holds (member w k) (part_of (pair_of t) x) ≡ true
        → ((x ≡ 0) ⊎ IsPartAskedFor pattern (logs w) m (part_of (pair_of t) x))
        → mirror_holds m (part_of (pair_of t) x) ≡ true
    comes x theirs part = elim (cases_Bool (mirror_holds m (part_of (pair_of t) x))) [
      | inl h ↦ h
      | inr free ↦
          absurd (true≢false
          (sym (here_someone w.members k (part_of (pair_of t) x) inside theirs)
          ∙ rest (part_of (pair_of t) x)
          (record { known = known_too; publisher = asked; part = part; not_held = free })))
    ]

    held_record : mirror_holds m (record_of t) ≡ true
    held_record = comes 0 soundly.with_record (inl refl)

    module _ (accepted : is_for pattern (logs w) (pair_of t) ≡ true) where
      after : (x : ℕ) → (x == 0) ≡ false → x ≤ count (logs w) (pair_of t)
          → member_holds (member w k) (part_of (pair_of t) x) ≡ true
          → mirror_holds m (part_of (pair_of t) (parent_number (shape_at (logs w) (pair_of t)) x)) ≡ true
          → mirror_holds m (part_of (pair_of t) x) ≡ true
      after x s counted theirs listed =
          let above = eqb-false x 0 s in
          comes x theirs (inr (record {
            from_one = omega (arith, above);
            counted = counted;
            with_parent = listed;
            accepted = accepted;
          }))

      abbrev n : ℕ
      n = length (contents_of (post_at (logs w) (pair_of t)))

      abbrev up : ℕ
      up = parent_number (shape_at (logs w) (pair_of t)) t.part

      held_parent : mirror_holds m (part_of (pair_of t) up) ≡ true
      held_parent = go (up == 0) refl where
        go : (b : Bool) → (up == 0) ≡ b → mirror_holds m (part_of (pair_of t) up) ≡ true
        go true e = ap (λ (x : ℕ). mirror_holds m (part_of (pair_of t) x)) (eqb-true up 0 e) ∙ held_record
        go false e =
            after up e (parent_within n t.part soundly.counted) soundly.with_parent
            (ap (λ (x : ℕ). mirror_holds m (part_of (pair_of t) x)) (parent_of_parent n t.part soundly.counted)
            ∙ held_record)

      held_too : mirror_holds m t ≡ true
      held_too = go (t.part == 0) refl where
        go : (b : Bool) → (t.part == 0) ≡ b → mirror_holds m t ≡ true
        go true e =
            ap (λ (x : ℕ). mirror_holds m (part_of (pair_of t) x)) (eqb-true t.part 0 e) ∙ held_record
        go false e = after t.part e soundly.counted held held_parent

    has_it : (mirror_holds m t ≡ true) ⊎ (contains pair_cmp m.passed (pair_of t) ≡ true)
    has_it =
        elim (or_cases (contains part_cmp m.kept (record_of t)) ((0 == 0) && contains pair_cmp m.passed (pair_of t))
        held_record) [
          | inl kept ↦ inl (held_too (sound.kept (record_of t) kept).accepted)
          | inr passed ↦ inr passed
        ]

  pub has_or_passed : someone_holds w.members t ≡ true
      → (mirror_holds m t ≡ true) ⊎ (contains pair_cmp m.passed (pair_of t) ≡ true)
  has_or_passed held =
      let k = at_holder w.members t held in has_it k.0 k.1 k.2
