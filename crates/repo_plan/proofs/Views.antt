-- What a plan's fields say, and what they say after a change.
use Rattle.std.proofs.Common.{◌≡◌, ◌⊎◌, inl, inr, ℕ, ◌+◌, ◌≤◌, ◌<◌, ◌^◌, length, Bool, true, false, not, ◌&&◌, ◌||◌}
use Rattle.std.proofs.Common.{cond, List, []}
use Rattle.std.proofs.Common.{◌∷◌, map, Option, Some, None, refl, sym, ap, ◌∙◌, subst, arith}
use Rattle.std.proofs.lemmas.Bool.{true≢false, and_parts, or_left, or_right, or_cases, false_from_ne_true, leb-true}
use Rattle.std.proofs.lemmas.Bool.{le-leb}
use Rattle.std.specs.Prelude.{nat_le, is_some, IfSome, ◌==◌, slice_index}
use Rattle.std.specs.List.{filter, list_all}
use Rattle.std.specs.Ordering.{nat_cmp, eq_by_cmp, is_eq}
use Rattle.std.specs.declared.cmp.Ordering.{Ordering}
use Rattle.std.specs.declared.cmp.Ordering.TheVariants.{Less, Equal, Greater}
use Rattle.repo_plan.specs.declared.part.Part.{Part}
use Rattle.repo_plan.specs.declared.plan.Plan.TheInside.{Inside}
use Rattle.sorted_lists.specs.SortedList.{keys, IsBefore, Rises, contains, insert_key, value_of, in_order, by_order}
use Rattle.sorted_lists.specs.SortedList.{without_key}
use Rattle.sorted_lists.proofs.MapChanges.{none_value, without_absent}
use Rattle.sorted_lists.specs.Range.{numbers_from}
use Rattle.repo_plan.specs.Parts.{Pair, Shape, pair_cmp, part_cmp, part_of, pair_of, parts_of}
use Rattle.repo_plan.specs.Parts.{IsShape, last_part, last_known_part}
use Rattle.repo_plan.specs.Plan.{holds, hides, shape_of, is_done, is_complete, is_in, with_shape}
use Rattle.repo_plan.specs.Sound.{PlanIsSound, CanBeHeld}
use Rattle.sorted_lists.specs.Runs.{Run, RunsState, Number, IsRuns, has, has_number, number_cmp}
use Rattle.repo_plan.specs.PlanFields.{holdings, is_noted, are_noted, held_parts, hidden_pairs, IsRoomy, IsPlan}
use Rattle.repo_plan.proofs.Orders.{exact_pairs, exact_parts}
use Rattle.sorted_lists.proofs.Sets.{In, before_more, eq_same, eq_itself, rises_insert, rises_filter, rises_keys_filter}
use Rattle.sorted_lists.proofs.Sets.{contains-insert_key, contains-filter, value_of-filter}
use Rattle.sorted_lists.proofs.SameSets.{same_sets}
use Rattle.repo_plan.proofs.Known.{from_numbers, counted}
use Rattle.repo_plan.proofs.Whole.{no_shape}
use Rattle.repo_plan.proofs.Kept.{wanted_same}
use Rattle.repo_plan.proofs.Changes.{with_part, sound_as, sound_part, keeps_part}
use Rattle.repo_plan.proofs.Done.{done_same, other_shape}
use Rattle.repo_plan.proofs.Held.{number_of, same_part, tells, held_has, held_rise, hidden_has, hidden_rise}

-- the lists of the records that are held
abbrev pub shapes_of : Inside → List (Pair × Shape)
shapes_of p = p.shapes.entries

and_true : (a b : Bool) → b ≡ true → (a && b) ≡ a
and_true true b h = h
and_true false b h = refl

-- the shapes without a publication's
pub without_filter : (pair : Pair) (es : List (Pair × Shape)) → Rises pair_cmp (keys es)
    → without_key pair_cmp pair es ≡ filter (λ e. not (eq_by_cmp pair_cmp pair e.0)) es
without_filter pair [] r = refl
without_filter pair (e ∷ es) r = go (pair_cmp pair e.0) refl (without_filter pair es r.1) where
  test : Pair × Shape → Bool
  test y = not (eq_by_cmp pair_cmp pair y.0)

  absent : IsBefore pair_cmp pair (keys es) → without_key pair_cmp pair es ≡ es
  absent b = without_absent exact_pairs.total pair es r.1 (none_value exact_pairs.total pair es b)

  go : (o : Ordering) → pair_cmp pair e.0 ≡ o → without_key pair_cmp pair es ≡ filter test es
      → by_order o (e ∷ es) es (e ∷ without_key pair_cmp pair es)
      ≡ cond (not (is_eq o)) (e ∷ filter test es) (filter test es)
  go Less c h =
      ap (λ (ys : List (Pair × Shape)). e ∷ ys)
      (sym (absent (before_more exact_pairs.total pair e.0 (keys es) c r.0)) ∙ h)
  go Equal c h =
      sym (absent (subst (λ (q : Pair). IsBefore pair_cmp q (keys es)) (sym (exact_pairs.same pair e.0 c)) r.0)) ∙ h
  go Greater c h = ap (λ (ys : List (Pair × Shape)). e ∷ ys) h

-- what a record tells that is held
abbrev pub shape_or : Option Shape → Shape
shape_or None = record { index = 0; segments = 0 }
shape_or (Some n) = n

pub after_or : (o : Option Shape) → last_known_part o ≡ last_part (shape_or o)
after_or None = refl
after_or (Some n) = refl

module _ (p : Inside) (i : IsPlan p) where
  pub holds_is : (t : Part)
      → holds (holdings p) t
      ≡ (is_noted p.done.runs p.held.runs (number_of t) && tells (shape_of (holdings p) (pair_of t)) t)
  holds_is t = held_has p.done.runs p.held.runs (shapes_of p) i.sound.in_order.shapes t

  -- of a part that is reported of
  pub held_counted : (t : Part) (n : Shape) → shape_of (holdings p) (pair_of t) ≡ Some n → t.part ≤ last_part n
      → holds (holdings p) t ≡ (has_number nat_cmp p.done (pair_of t) || has_number pair_cmp p.held (number_of t))
  held_counted t n e l =
      holds_is t
      ∙ ap (λ (o : Option Shape). is_noted p.done.runs p.held.runs (number_of t) && tells o t) e
      ∙ and_true (is_noted p.done.runs p.held.runs (number_of t)) (nat_le t.part (last_part n))
      (le-leb t.part (last_part n) l)

  pub hides_is : (q : Pair)
      → hides (holdings p) q ≡ (not (is_some (shape_of (holdings p) q)) && has_number nat_cmp p.done q)
  hides_is q = hidden_has p.done.runs (shapes_of p) i.done.runs i.done.one q

  pub complete_is : (q : Pair)
      → (is_some (shape_of (holdings p) q) && has_number nat_cmp p.done q) ≡ is_complete (holdings p) q
  complete_is q = go (shape_of (holdings p) q) refl where
    go : (o : Option Shape) → shape_of (holdings p) q ≡ o
        → (is_some o && has_number nat_cmp p.done q) ≡ is_complete (holdings p) q
    go None e = sym (no_shape (holdings p) q i.sound e)
    go (Some n) e =
        i.all_done q
        ∙ ap (λ (b : Bool). b || is_complete (holdings p) q)
        (hides_is q ∙ ap (λ (o : Option Shape). not (is_some o) && has_number nat_cmp p.done q) e)

  -- of a publication that is not done, what is in no run is not held
  pub gap_open : (pair : Pair) (x : ℕ) → is_done (holdings p) pair ≡ false
      → has_number pair_cmp p.held (pair, x) ≡ false → holds (holdings p) (part_of pair x) ≡ false
  gap_open pair x open_yet lacks =
      holds_is (part_of pair x)
      ∙ (λ j. ((i.all_done pair ∙ open_yet) j || lacks j) && tells (shape_of (holdings p) pair) (part_of pair x))

  -- what is noted of a publication that isn't hidden is reported of
  noted_counted : (t : Part) → hides (holdings p) (pair_of t) ≡ false
      → is_noted p.done.runs p.held.runs (number_of t) ≡ true
      → is_some (shape_of (holdings p) (pair_of t)) ≡ true
  noted_counted t open_yet h =
      elim (or_cases (has_number nat_cmp p.done (pair_of t)) (has_number pair_cmp p.held (number_of t)) h) [
        | inl d ↦ whole (shape_of (holdings p) (pair_of t)) refl (sym (i.all_done (pair_of t)) ∙ d)
        | inr l ↦ i.sound.shapes (pair_of t) ∙ (i.sound.held t (i.all_held (number_of t) l)).with_record
      ] where
        whole : (o : Option Shape) → shape_of (holdings p) (pair_of t) ≡ o → is_done (holdings p) (pair_of t) ≡ true
            → is_some o ≡ true
        whole None e d =
            absurd (true≢false (sym d ∙ (λ j. open_yet j || no_shape (holdings p) (pair_of t) i.sound e j)))
        whole (Some n) e d = refl

  -- ---- one more part is held

  module _ (t : Part) (can : CanBeHeld (holdings p) t) (fresh : holds (holdings p) t ≡ false) (segments : Option Shape)
      (last_number : is_some segments ≡ (t.part == 0)) (sized : IfSome segments IsShape) where
    sound_more : PlanIsSound (with_part t segments (holdings p))
    sound_more = sound_part (holdings p) t i.sound can fresh segments last_number sized

    there : holds (with_part t segments (holdings p)) t ≡ true
    there =
        contains-insert_key exact_parts t (holdings p).held t
        ∙ or_left (eq_by_cmp part_cmp t t) _ (eq_itself exact_parts t)

    -- its record is held from now on
    pub reported_more : shape_of (with_part t segments (holdings p)) (pair_of t)
        ≡ Some (shape_or (shape_of (with_part t segments (holdings p)) (pair_of t)))
    reported_more =
        go (shape_of (with_part t segments (holdings p)) (pair_of t))
        (sound_more.shapes (pair_of t) ∙ (sound_more.held t there).with_record) where
          go : (o : Option Shape) → is_some o ≡ true → o ≡ Some (shape_or o)
          go None h = absurd (true≢false (sym h))
          go (Some n) h = refl

    module _ (done : RunsState ℕ) (held : RunsState Pair) (n : Shape)
        (shape : shape_of (with_part t segments (holdings p)) (pair_of t) ≡ Some n)
        (noted : (q : Number Pair) → (q.0 ≡ pair_of t → q.1 ≤ last_part n)
        → is_noted done.runs held.runs q
        ≡ (eq_by_cmp (number_cmp pair_cmp) q (number_of t) || is_noted p.done.runs p.held.runs q)) where
      counts_it : t.part ≤ last_part n
      counts_it =
          let asked =
          (and_parts (Rattle.repo_plan.specs.Plan.knows (with_part t segments (holdings p)) (pair_of t)) _
          (sound_more.held t there).asked).1 in
          let within : t.part ≤ last_known_part (shape_of (with_part t segments (holdings p)) (pair_of t)) =
          counted (with_part t segments (holdings p)) (shape_of (with_part t segments (holdings p)) (pair_of t)) t
          asked in
          omega (arith, within, ap last_known_part shape)

      some_same : (a b : Shape) → Some a ≡ Some b → a ≡ b
      some_same a b h = cc

      -- what was reported before is reported still
      counted_before : (u : Part) → pair_of u ≡ pair_of t → (m : Shape) → shape_of (holdings p) (pair_of u) ≡ Some m
          → m ≡ n
      counted_before u s m h =
          some_same m n
          (sym ((keeps_part (holdings p) t i.sound can fresh segments last_number).shapes (pair_of u) m h)
          ∙ ap (shape_of (with_part t segments (holdings p))) s ∙ shape)

      is_held : (u : Part)
          → (is_noted done.runs held.runs (number_of u)
          && tells (shape_of (with_part t segments (holdings p)) (pair_of u)) u)
          ≡ (eq_by_cmp part_cmp u t
          || (is_noted p.done.runs p.held.runs (number_of u) && tells (shape_of (holdings p) (pair_of u)) u))
      is_held u = go (eq_by_cmp pair_cmp (pair_of u) (pair_of t)) refl where
        here : pair_of u ≡ pair_of t → (b : Bool) → nat_le u.part (last_part n) ≡ b
            → (is_noted done.runs held.runs (number_of u) && b)
            ≡ (eq_by_cmp part_cmp u t
            || (is_noted p.done.runs p.held.runs (number_of u)
            && tells (shape_of (holdings p) (pair_of u)) u))
        here s true l =
            and_one (is_noted done.runs held.runs (number_of u))
            ∙ noted (number_of u) (λ _. leb-true u.part (last_part n) l)
            ∙ (λ j.
            sym (same_part u t) j || known (is_noted p.done.runs p.held.runs (number_of u)) refl j) where
              and_one : (b : Bool) → (b && true) ≡ b
              and_one true = refl
              and_one false = refl

              counts : (o : Option Shape) → shape_of (holdings p) (pair_of u) ≡ o → is_some o ≡ true → tells o u ≡ true
              counts None e h = absurd (true≢false (sym h))
              counts (Some m) e h = ap (λ (z : Shape). nat_le u.part (last_part z)) (counted_before u s m e) ∙ l

              known : (b : Bool) → is_noted p.done.runs p.held.runs (number_of u) ≡ b
                  → b ≡ (b && tells (shape_of (holdings p) (pair_of u)) u)
              known true h =
                  sym (counts (shape_of (holdings p) (pair_of u)) refl
                  (noted_counted u (ap (hides (holdings p)) s ∙ can.not_hidden) h))
              known false h = refl
        here s false l =
            and_none (is_noted done.runs held.runs (number_of u))
            ∙ sym ((λ j. apart j
            || (is_noted p.done.runs p.held.runs (number_of u)
            && past (shape_of (holdings p) (pair_of u)) refl j))
            ∙ and_none (is_noted p.done.runs p.held.runs (number_of u))) where
              and_none : (b : Bool) → (b && false) ≡ false
              and_none true = refl
              and_none false = refl

              apart : eq_by_cmp part_cmp u t ≡ false
              apart =
                  false_from_ne_true (eq_by_cmp part_cmp u t)
                  (λ e. true≢false
                  (sym (le-leb u.part (last_part n)
                  (subst (λ (w : Part). w.part ≤ last_part n) (sym (eq_same exact_parts u t e)) counts_it))
                  ∙ l))

              past : (o : Option Shape) → shape_of (holdings p) (pair_of u) ≡ o → tells o u ≡ false
              past None e = refl
              past (Some m) e = ap (λ (z : Shape). nat_le u.part (last_part z)) (counted_before u s m e) ∙ l

        go : (b : Bool) → eq_by_cmp pair_cmp (pair_of u) (pair_of t) ≡ b
            → (is_noted done.runs held.runs (number_of u)
            && tells (shape_of (with_part t segments (holdings p)) (pair_of u)) u)
            ≡ (eq_by_cmp part_cmp u t
            || (is_noted p.done.runs p.held.runs (number_of u)
            && tells (shape_of (holdings p) (pair_of u)) u))
        go true e =
            let s : pair_of u ≡ pair_of t = eq_same exact_pairs (pair_of u) (pair_of t) e in
            ap (λ (o : Option Shape). is_noted done.runs held.runs (number_of u) && tells o u)
            (ap (shape_of (with_part t segments (holdings p))) s ∙ shape)
            ∙ here s (nat_le u.part (last_part n)) refl
        go false e =
            let apart : eq_by_cmp part_cmp u t ≡ false =
            false_from_ne_true (eq_by_cmp part_cmp u t)
            (λ h. true≢false
            (sym (ap (λ (w : Part). eq_by_cmp pair_cmp (pair_of w) (pair_of t)) (eq_same exact_parts u t h)
            ∙ eq_itself exact_pairs (pair_of t))
            ∙ e)) in
            let same =
            noted (number_of u)
            (λ s. absurd (true≢false
            (sym (ap (λ (q : Pair). eq_by_cmp pair_cmp q (pair_of t)) s ∙ eq_itself exact_pairs (pair_of t)) ∙ e))) in
            (λ j. (same ∙ ap (λ (b : Bool). b || is_noted p.done.runs p.held.runs (number_of u))
            (sym (same_part u t) ∙ apart)) j
            && tells (other_shape (holdings p) (pair_of t) (pair_of u) segments e j) u)
            ∙ sym (ap (λ (b : Bool). b
            || (is_noted p.done.runs p.held.runs (number_of u)
            && tells (shape_of (holdings p) (pair_of u)) u)) apart)

      pub held_more : held_parts done.runs held.runs (with_shape (pair_of t) segments (shapes_of p))
          ≡ insert_key part_cmp t (holdings p).held
      held_more =
          same_sets exact_parts _ (insert_key part_cmp t (holdings p).held)
          (held_rise done.runs held.runs (with_shape (pair_of t) segments (shapes_of p))
          sound_more.in_order.shapes) (rises_insert exact_parts.total t (holdings p).held i.sound.in_order.held) (λ u.
          held_has done.runs held.runs (with_shape (pair_of t) segments (shapes_of p))
          sound_more.in_order.shapes u
          ∙ is_held u
          ∙ ap (λ (b : Bool). eq_by_cmp part_cmp u t || b) (sym (holds_is u))
          ∙ sym (contains-insert_key exact_parts t (holdings p).held u))

      -- it is complete where all its parts are noted
      all_over : (f : ℕ → Bool) (g : Part → Bool) (xs : List ℕ) → ((x : ℕ) → In x xs → f x ≡ g (part_of (pair_of t) x))
          → list_all f xs ≡ list_all g (map (part_of (pair_of t)) xs)
      all_over f g [] h = refl
      all_over f g (x ∷ xs) h = λ j. h x (inl refl) j && all_over f g xs (λ y k. h y (inr k)) j

      pub complete_more : are_noted done.runs held.runs (pair_of t) (last_part n)
          ≡ is_complete (with_part t segments (holdings p)) (pair_of t)
      complete_more =
          all_over (λ x. is_noted done.runs held.runs (pair_of t, x))
          (holds (with_part t segments (holdings p))) (numbers_from 0 (last_part n + 1)) (λ x k.
          let within : x ≤ last_part n = omega (arith, (from_numbers 0 (last_part n + 1) x k).1) in
          let u = part_of (pair_of t) x in
          sym ((λ j. contains part_cmp (sym held_more j) u)
          ∙ held_has done.runs held.runs (with_shape (pair_of t) segments (shapes_of p))
          sound_more.in_order.shapes u
          ∙ ap (λ (o : Option Shape). is_noted done.runs held.runs (pair_of t, x) && tells o u) shape
          ∙ and_true (is_noted done.runs held.runs (pair_of t, x)) (nat_le x (last_part n))
          (le-leb x (last_part n) within)))
          ∙ ap (λ (o : Option Shape).
          list_all (holds (with_part t segments (holdings p))) (parts_of (pair_of t) (last_known_part o))) (sym shape)

      -- no other publication is hidden
      pub hidden_as_before : IsRuns nat_cmp done.runs → (whole : Bool)
          → ((q : Pair)
          → has_number nat_cmp done q ≡ ((eq_by_cmp pair_cmp q (pair_of t) && whole) || has_number nat_cmp p.done q))
          → hidden_pairs done.runs (with_shape (pair_of t) segments (shapes_of p)) ≡ (holdings p).hidden
      hidden_as_before r whole d =
          same_sets exact_pairs _ (holdings p).hidden
          (hidden_rise done.runs (with_shape (pair_of t) segments (shapes_of p)) r.runs r.one)
          i.sound.in_order.hidden (λ q.
          hidden_has done.runs (with_shape (pair_of t) segments (shapes_of p)) r.runs r.one q
          ∙ go q (eq_by_cmp pair_cmp q (pair_of t)) refl) where
            go : (q : Pair) (b : Bool) → eq_by_cmp pair_cmp q (pair_of t) ≡ b
                → (not (is_some (shape_of (with_part t segments (holdings p)) q)) && has_number nat_cmp done q)
                ≡ hides (holdings p) q
            go q true e =
                let s : q ≡ pair_of t = eq_same exact_pairs q (pair_of t) e in
                ap (λ (o : Option Shape). not (is_some o) && has_number nat_cmp done q)
                (ap (shape_of (with_part t segments (holdings p))) s ∙ shape)
                ∙ sym (ap (hides (holdings p)) s ∙ can.not_hidden)
            go q false e =
                (λ j. not (is_some (other_shape (holdings p) (pair_of t) q segments e j))
                && (d q ∙ ap (λ (b : Bool). (b && whole) || has_number nat_cmp p.done q) e) j)
                ∙ sym (hides_is q)

    -- what stands in the runs is held
    pub runs_more : (held : RunsState Pair)
        → ((q : Number Pair) → has_number pair_cmp held q ≡ true
        → (eq_by_cmp (number_cmp pair_cmp) q (number_of t) || has_number pair_cmp p.held q) ≡ true)
        → (q : Number Pair) → has_number pair_cmp held q ≡ true
        → holds (with_part t segments (holdings p)) (part_of q.0 q.1) ≡ true
    runs_more held kept q h =
        contains-insert_key exact_parts t (holdings p).held (part_of q.0 q.1)
        ∙ go (or_cases (eq_by_cmp (number_cmp pair_cmp) q (number_of t)) _ (kept q h)) where
          go : (eq_by_cmp (number_cmp pair_cmp) q (number_of t) ≡ true) ⊎ (has_number pair_cmp p.held q ≡ true)
              → (eq_by_cmp part_cmp (part_of q.0 q.1) t || holds (holdings p) (part_of q.0 q.1)) ≡ true
          go (inl e) = or_left (eq_by_cmp part_cmp (part_of q.0 q.1) t) _ (same_part (part_of q.0 q.1) t ∙ e)
          go (inr l) = or_right (eq_by_cmp part_cmp (part_of q.0 q.1) t) _ (i.all_held q l)

  -- ---- a publication is hidden

  module _ (pair : Pair) (done : RunsState ℕ) (held : RunsState Pair)
      (d : (q : Pair) → has_number nat_cmp done q ≡ (eq_by_cmp pair_cmp q pair || has_number nat_cmp p.done q))
      (l : (q : Number Pair)
      → has_number pair_cmp held q ≡ (not (eq_by_cmp pair_cmp pair q.0) && has_number pair_cmp p.held q)) where
    rest_rises : Rises pair_cmp (keys (filter (λ e. not (eq_by_cmp pair_cmp pair e.0)) (shapes_of p)))
    rest_rises =
        rises_keys_filter exact_pairs (λ q. not (eq_by_cmp pair_cmp pair q)) (shapes_of p) i.sound.in_order.shapes

    rest_has : (q : Pair)
        → value_of pair_cmp (filter (λ e. not (eq_by_cmp pair_cmp pair e.0)) (shapes_of p)) q
        ≡ cond (not (eq_by_cmp pair_cmp pair q)) (shape_of (holdings p) q) None
    rest_has q = value_of-filter exact_pairs (λ z. not (eq_by_cmp pair_cmp pair z)) (shapes_of p) q

    both : (q : Pair) (b : Bool) → eq_by_cmp pair_cmp pair q ≡ b → eq_by_cmp pair_cmp q pair ≡ b
    both q true e =
        ap (λ (z : Pair). eq_by_cmp pair_cmp z pair) (sym (eq_same exact_pairs pair q e)) ∙ eq_itself exact_pairs pair
    both q false e =
        false_from_ne_true (eq_by_cmp pair_cmp q pair)
        (λ h.
        true≢false (sym (ap (eq_by_cmp pair_cmp pair) (eq_same exact_pairs q pair h) ∙ eq_itself exact_pairs pair) ∙ e))

    pub held_hidden :
        held_parts done.runs held.runs (filter (λ e. not (eq_by_cmp pair_cmp pair e.0)) (shapes_of p))
        ≡ filter (λ t. not (is_in pair t)) (holdings p).held
    held_hidden =
        same_sets exact_parts _ (filter (λ t. not (is_in pair t)) (holdings p).held)
        (held_rise done.runs held.runs _ rest_rises)
        (rises_filter exact_parts.total (λ t. not (is_in pair t)) (holdings p).held i.sound.in_order.held) (λ u.
        held_has done.runs held.runs _ rest_rises u
        ∙ ap (λ (o : Option Shape). is_noted done.runs held.runs (number_of u) && tells o u)
        (rest_has (pair_of u))
        ∙ go u (eq_by_cmp pair_cmp pair (pair_of u)) refl
        ∙ sym (contains-filter exact_parts (λ t. not (is_in pair t)) (holdings p).held u)) where
          and_none : (b : Bool) → (b && false) ≡ false
          and_none true = refl
          and_none false = refl

          go : (u : Part) (b : Bool) → eq_by_cmp pair_cmp pair (pair_of u) ≡ b
              → (is_noted done.runs held.runs (number_of u)
              && tells (cond (not (eq_by_cmp pair_cmp pair (pair_of u))) (shape_of (holdings p) (pair_of u)) None) u)
              ≡ (not (eq_by_cmp pair_cmp pair (pair_of u)) && holds (holdings p) u)
          go u true e =
              (λ j. is_noted done.runs held.runs (number_of u)
              && tells (cond (not (e j)) (shape_of (holdings p) (pair_of u)) None) u)
              ∙ and_none (is_noted done.runs held.runs (number_of u))
              ∙ sym (ap (λ (b : Bool). not b && holds (holdings p) u) e)
          go u false e =
              (λ j. ((d (pair_of u)
              ∙ ap (λ (b : Bool). b || has_number nat_cmp p.done (pair_of u)) (both (pair_of u) false e)) j
              || (l (number_of u) ∙ ap (λ (b : Bool). not b && has_number pair_cmp p.held (number_of u)) e) j)
              && tells (cond (not (e j)) (shape_of (holdings p) (pair_of u)) None) u)
              ∙ sym (ap (λ (b : Bool). not b && holds (holdings p) u) e ∙ holds_is u)

    pub hidden_more : IsRuns nat_cmp done.runs
        → hidden_pairs done.runs (filter (λ e. not (eq_by_cmp pair_cmp pair e.0)) (shapes_of p))
        ≡ insert_key pair_cmp pair (holdings p).hidden
    hidden_more r =
        same_sets exact_pairs _ (insert_key pair_cmp pair (holdings p).hidden)
        (hidden_rise done.runs _ r.runs r.one)
        (rises_insert exact_pairs.total pair (holdings p).hidden i.sound.in_order.hidden) (λ q.
        hidden_has done.runs _ r.runs r.one q
        ∙ ap (λ (o : Option Shape). not (is_some o) && has_number nat_cmp done q) (rest_has q)
        ∙ go q (eq_by_cmp pair_cmp pair q) refl
        ∙ sym (contains-insert_key exact_pairs pair (holdings p).hidden q)) where
          go : (q : Pair) (b : Bool) → eq_by_cmp pair_cmp pair q ≡ b
              → (not (is_some (cond (not (eq_by_cmp pair_cmp pair q)) (shape_of (holdings p) q) None))
              && has_number nat_cmp done q)
              ≡ (eq_by_cmp pair_cmp q pair || hides (holdings p) q)
          go q true e =
              (λ j. not (is_some (cond (not (e j)) (shape_of (holdings p) q) None))
              && (d q ∙ ap (λ (b : Bool). b || has_number nat_cmp p.done q) (both q true e)) j)
              ∙ sym (ap (λ (b : Bool). b || hides (holdings p) q) (both q true e))
          go q false e =
              (λ j. not (is_some (cond (not (e j)) (shape_of (holdings p) q) None))
              && (d q ∙ ap (λ (b : Bool). b || has_number nat_cmp p.done q) (both q false e)) j)
              ∙ sym (ap (λ (b : Bool). b || hides (holdings p) q) (both q false e) ∙ hides_is q)

    pub runs_hidden : (q : Number Pair) → has_number pair_cmp held q ≡ true
        → contains part_cmp (filter (λ t. not (is_in pair t)) (holdings p).held) (part_of q.0 q.1) ≡ true
    runs_hidden q h =
        let b : (not (eq_by_cmp pair_cmp pair q.0) ≡ true) × (has_number pair_cmp p.held q ≡ true) =
        and_parts (not (eq_by_cmp pair_cmp pair q.0)) (has_number pair_cmp p.held q) (sym (l q) ∙ h) in
        contains-filter exact_parts (λ t. not (is_in pair t)) (holdings p).held (part_of q.0 q.1)
        ∙ (λ j. b.0 j && i.all_held q b.1 j)

-- fields that say the same, with more room
pub roomier : (p q : Inside) → IsPlan p → q.known ≡ p.known → q.done.runs ≡ p.done.runs
    → q.held.runs ≡ p.held.runs → shapes_of q ≡ shapes_of p → q.claims ≡ p.claims
    → in_order part_cmp q.attempts.entries ≡ in_order part_cmp p.attempts.entries → q.held_count ≡ p.held_count
    → q.wanted_count ≡ p.wanted_count → IsRoomy q → IsPlan q
roomier p q i known done held shapes claims attempts held_count wanted_count room =
    let parts : (holdings q).held ≡ (holdings p).held = λ j. held_parts (done j) (held j) (shapes j) in
    let hidden : (holdings q).hidden ≡ (holdings p).hidden = λ j. hidden_pairs (done j) (shapes j) in
    record {
      sound =
          sound_as (holdings p) (holdings q) (ap (λ v. v.items) (sym known)) (sym parts) (sym shapes) (sym claims)
          (sym hidden) (sym attempts) i.sound;
      done = subst (IsRuns nat_cmp) (sym done) i.done;
      room = room;
      counted = record {
        held = held_count ∙ i.counted.held ∙ ap length (sym parts);
        wanted =
            wanted_count
            ∙ i.counted.wanted
            ∙ ap length
            (wanted_same (holdings p) (ap (λ v. v.items) (sym known)) (sym parts) (sym shapes) (sym hidden));
        numbers = λ n. subst (λ v. slice_index v.items n < 2 ^ 16) (sym known) (i.counted.numbers n);
      };
      all_done = λ pair.
          ap (λ (zs : List (Run ℕ)). has pair_cmp zs pair) done ∙ i.all_done pair
          ∙ sym
          (done_same (holdings p) (holdings q).held (holdings q).shapes (holdings q).hidden parts shapes hidden pair);
      all_held = λ n h.
          ap (λ (ts : List Part). contains part_cmp ts (part_of n.0 n.1)) parts
          ∙ i.all_held n (ap (λ (zs : List (Run Pair)). has (number_cmp pair_cmp) zs n) (sym held) ∙ h);
    }
