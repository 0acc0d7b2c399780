-- What a settle makes of a mirror, as its group sees it.
use Rattle.std.proofs.Common.{◌≡◌, ◌∙◌, ◌⊎◌, inl, inr, ℕ, ◌≤◌, Bool, true, false, cond, ◌||◌, nat_le, List, []}
use Rattle.std.proofs.Common.{◌∷◌, ◌++◌, length, refl, sym, ap, subst, arith}
use Rattle.std.specs.Prelude.{◌==◌, slice_index}
use Rattle.std.proofs.lemmas.Bool.{and_from, and_parts, cases_Bool, eq-eqb, eqb-false, eqb-true, le-leb, leb-true}
use Rattle.std.proofs.lemmas.Bool.{or_cases, or_left, or_right, true≢false}
use Rattle.svs_vector.specs.Vectors.{join}
use Rattle.sorted_lists.proofs.RunOrder.{both_ways}
use Rattle.repo_plan.specs.declared.part.Part.{Part}
use Rattle.repo_plan.specs.Parts.{pair_of, parent, parent_number, part_of, record_of}
use Rattle.repo_object.specs.Objects.{contents_of}
use Rattle.repo_watch.specs.declared.pattern.Pattern.{Pattern}
use Rattle.repo_watch.specs.Patterns.{is_publisher}
use Rattle.group_model.specs.Publications.{Logs, count, post_at, shape_at}
use Rattle.group_model.specs.Member.{Member, member_holds, tries_of}
use Rattle.group_model.specs.World.{World, logs, no_member, someone_holds}
use Rattle.group_model.specs.Steps.{settled_vector}
use Rattle.group_model.specs.Sound.{IsSoundGroup}
use Rattle.group_model.proofs.Lists.{at_in}
use Rattle.group_model.proofs.Parents.{parent_of_parent}
use Rattle.group_model.proofs.Settles.{holder, someone, someone_lists}
use Rattle.sorted_lists.proofs.Sets.{In}
use Rattle.repo_mirror.specs.Asked.{is_for}
use Rattle.repo_mirror.specs.Mirrors.{ComeInTurn, IsPartAskedFor, IsWantedByMirror, Mirror, mirror_gains}
use Rattle.repo_mirror.specs.Mirrors.{mirror_holds, path_to, unless_held}
use Rattle.repo_mirror.specs.MirrorLaws.{learns_all}
use Rattle.repo_mirror.proofs.Gains.{gains_known}
use Rattle.repo_mirror.specs.MirrorState.{MirrorState}
use Rattle.repo_mirror.specs.ConsistentMirrors.{mirror_in_group}
use Rattle.bench_world.specs.MirrorSettles.{HasSettled}
use Rattle.script_story.specs.Mirrors.{is_gained, mirror_as, mirror_settles}

-- ---- what comes in turn

-- A part that a mirror can gain in a settle, by what it knows of and by its pattern.
record Comes (pattern : Pattern) (ls : Logs) (members : List Member) (known : List ℕ) (t : Part) : Type 0 where
  printed : t.seq ≤ slice_index known t.publisher
  publisher : is_publisher pattern.publisher t.publisher ≡ true
  part : (t.part == 0 || is_for pattern ls (pair_of t)) ≡ true
  someones : someone_holds members t ≡ true

module _ (pattern : Pattern) (ls : Logs) (members : List Member) where
  comes_wanted : (m : Mirror) (t : Part) → IsWantedByMirror pattern ls m t → someone_holds members t ≡ true
      → Comes pattern ls members m.known t
  comes_wanted m t h held = record {
    printed = h.known.to_known;
    publisher = h.publisher;
    part = elim h.part [
      | inl z ↦ or_left (t.part == 0) (is_for pattern ls (pair_of t)) (eq-eqb t.part 0 z)
      | inr s ↦ or_right (t.part == 0) (is_for pattern ls (pair_of t)) s.accepted
    ];
    someones = held;
  }

  -- The mirror can gain the last of parts that it gains in turn.
  comes_last : (ts : List Part) (m : Mirror) (t : Part) → ComeInTurn pattern ls members (ts ++ t ∷ []) m
      → Comes pattern ls members m.known t
  comes_last [] m t h = comes_wanted m t h.0 h.1
  comes_last (u ∷ us) m t h =
      subst (λ (known : List ℕ). Comes pattern ls members known t) (gains_known pattern ls u m)
      (comes_last us (mirror_gains pattern ls u m) t h.2)

  comes_by_path : (m : Mirror) (t : Part) → ComeInTurn pattern ls members (path_to ls m t) m
      → Comes pattern ls members m.known t
  comes_by_path m t = go (t.part == 0) (parent_number (shape_at ls (pair_of t)) t.part == 0) where
    up : Part
    up = parent (shape_at ls (pair_of t)) t

    assoc : (xs ys : List Part) → (xs ++ ys) ++ t ∷ [] ≡ xs ++ (ys ++ t ∷ [])
    assoc [] ys = refl
    assoc (x ∷ xs) ys = ap (λ (zs : List Part). x ∷ zs) (assoc xs ys)

    go : (zero first : Bool)
        → ComeInTurn pattern ls members
        (cond zero (t ∷ []) (cond first (unless_held m (record_of t) ++ t ∷ [])
        (unless_held m (record_of t) ++ (unless_held m up ++ t ∷ [])))) m
        → Comes pattern ls members m.known t
    go true first h = comes_last [] m t h
    go false true h = comes_last (unless_held m (record_of t)) m t h
    go false false h =
        comes_last (unless_held m (record_of t) ++ unless_held m up) m t
        (subst (λ (ts : List Part). ComeInTurn pattern ls members ts m)
        (sym (assoc (unless_held m (record_of t)) (unless_held m up))) h)

-- ---- what a member holds

-- A part that someone holds is one of a publication that there is.
record IsHeld (w : World) (t : Part) : Type 0 where
  from_one : 1 ≤ t.seq
  counted : t.part ≤ count (logs w) (pair_of t)
  with_record : someone_holds w.members (record_of t) ≡ true

held_soundly : (w : World) → IsSoundGroup w → (t : Part) → someone_holds w.members t ≡ true → IsHeld w t
held_soundly w s t h =
    let r : (m : Member) × In m w.members × (member_holds m t ≡ true) = holder w.members t h in
    let k = at_in w.members r.0 no_member r.1 in
    let held = (s.members k.0 k.1).held t (subst (λ (m : Member). member_holds m t ≡ true) k.2 r.2) in
    record {
      from_one = held.known.from_one;
      counted = held.counted;
      with_record = someone w.members r.0 (record_of t) r.1
          (subst (λ (m : Member). member_holds m (record_of t) ≡ true) (sym k.2) held.with_record);
    }

-- ---- a settle

module _ (w : World) (s : IsSoundGroup w) (old new : MirrorState) (h : HasSettled w old new) where
  -- A part that is gained in the group's view is one that the mirror can gain.
  comes : (t : Part) → is_gained w (mirror_as old) t ≡ true
      → Comes old.pattern (logs w) w.members (join old.known (settled_vector w)) t
  comes t c =
      let known : List ℕ = join old.known (settled_vector w) in
      let a = and_parts (nat_le t.seq (slice_index known t.publisher)) _ c in
      let b = and_parts (is_publisher old.pattern.publisher t.publisher) _ a.1 in
      let d = and_parts (t.part == 0 || is_for old.pattern (logs w) (pair_of t)) (someone_holds w.members t) b.1 in
      record { printed = leb-true t.seq _ a.0; publisher = b.0; part = d.0; someones = d.1 }

  come : (t : Part) → Comes old.pattern (logs w) w.members (join old.known (settled_vector w)) t
      → is_gained w (mirror_as old) t ≡ true
  come t c =
      and_from (nat_le t.seq (slice_index (join old.known (settled_vector w)) t.publisher)) _
      (le-leb t.seq _ c.printed)
      (and_from (is_publisher old.pattern.publisher t.publisher) _ c.publisher
      (and_from (t.part == 0 || is_for old.pattern (logs w) (pair_of t)) (someone_holds w.members t) c.part
      c.someones))

  -- The mirror holds a part that it can gain, if the part is a record, or the part that lists it is held.
  held_if : (t : Part) → Comes old.pattern (logs w) w.members (join old.known (settled_vector w)) t
      → ((t.part == 0) ≡ false → mirror_holds (mirror_in_group new) (parent (shape_at (logs w) (pair_of t)) t) ≡ true)
      → mirror_holds (mirror_in_group new) t ≡ true
  held_if t c listed = elim (cases_Bool (mirror_holds (mirror_in_group new) t)) [
    | inl held ↦ held
    | inr free ↦ absurd (true≢false (sym c.someones ∙ h.rest t (wanted free)))
  ] where
    sound : IsHeld w t
    sound = held_soundly w s t c.someones

    part : (z : Bool) → (t.part == 0) ≡ z → (z || is_for old.pattern (logs w) (pair_of t)) ≡ true
        → (t.part ≡ 0) ⊎ IsPartAskedFor old.pattern (logs w) (mirror_in_group new) t
    part true z kept = inl (eqb-true t.part 0 z)
    part false z kept =
        let above = eqb-false t.part 0 z in
        inr (record {
          from_one = omega (arith, above);
          counted = sound.counted;
          with_parent = listed z;
          accepted = kept;
        })

    wanted : mirror_holds (mirror_in_group new) t ≡ false
        → IsWantedByMirror old.pattern (logs w) (mirror_in_group new) t
    wanted free = record {
      known = record {
        from_one = sound.from_one;
        to_known = subst (λ (known : List ℕ). t.seq ≤ slice_index known t.publisher) (sym h.known) c.printed;
      };
      publisher = c.publisher;
      part = part (t.part == 0) refl c.part;
      not_held = free;
    }

  -- Where a part after the record is gained, each other part of the publication that a member holds is gained too.
  comes_too : (t : Part) (x : ℕ) → Comes old.pattern (logs w) w.members (join old.known (settled_vector w)) t
      → (t.part == 0) ≡ false → someone_holds w.members (part_of (pair_of t) x) ≡ true
      → Comes old.pattern (logs w) w.members (join old.known (settled_vector w)) (part_of (pair_of t) x)
  comes_too t x c after held = record {
    printed = c.printed;
    publisher = c.publisher;
    part = or_right (x == 0) (is_for old.pattern (logs w) (pair_of t))
        (subst (λ (z : Bool). (z || is_for old.pattern (logs w) (pair_of t)) ≡ true) after c.part);
    someones = held;
  }

  record_held : (t : Part) → Comes old.pattern (logs w) w.members (join old.known (settled_vector w)) t
      → (t.part == 0) ≡ false → mirror_holds (mirror_in_group new) (record_of t) ≡ true
  record_held t c after =
      held_if (record_of t) (comes_too t 0 c after (held_soundly w s t c.someones).with_record)
      (λ other. absurd (true≢false other))

  parent_held : (t : Part) → Comes old.pattern (logs w) w.members (join old.known (settled_vector w)) t
      → (t.part == 0) ≡ false
      → mirror_holds (mirror_in_group new) (parent (shape_at (logs w) (pair_of t)) t) ≡ true
  parent_held t c after =
      held_if (parent (shape_at (logs w) (pair_of t)) t)
      (comes_too t (parent_number (shape_at (logs w) (pair_of t)) t.part) c after (someone_lists w s t c.someones))
      (λ other.
      ap (λ (x : ℕ). mirror_holds (mirror_in_group new) (part_of (pair_of t) x))
      (parent_of_parent (length (contents_of (post_at (logs w) (pair_of t)))) t.part
      (held_soundly w s t c.someones).counted)
      ∙ record_held t c after)

  held_as : (t : Part) → mirror_holds (mirror_in_group new) t
      ≡ (mirror_holds (mirror_in_group old) t || is_gained w (mirror_as old) t)
  held_as t =
      both_ways (mirror_holds (mirror_in_group new) t)
      (mirror_holds (mirror_in_group old) t || is_gained w (mirror_as old) t)
      (λ held. elim (cases_Bool (mirror_holds (mirror_in_group old) t)) [
        | inl was ↦ or_left (mirror_holds (mirror_in_group old) t) (is_gained w (mirror_as old) t) was
        | inr free ↦
            or_right (mirror_holds (mirror_in_group old) t) (is_gained w (mirror_as old) t)
            (come t (comes_by_path old.pattern (logs w) w.members (learns_all w (mirror_in_group old)) t
            (h.gains.only t held free)))
      ])
      (λ both. elim (or_cases (mirror_holds (mirror_in_group old) t) (is_gained w (mirror_as old) t) both) [
        | inl was ↦ h.kept t was
        | inr c ↦ held_if t (comes t c) (parent_held t (comes t c))
      ])

  pub settled_as : mirror_as new ≡ mirror_settles w (mirror_as old)
  settled_as = λ k. record {
    pattern = h.pattern k;
    known = h.known k;
    holds = λ t. held_as t k;
    tries = λ t. tries_of (h.attempts k) t;
  }
