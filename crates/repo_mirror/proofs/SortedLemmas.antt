-- The results of a fetch, sorted into what is kept and what is passed over.
use Rattle.std.proofs.Common.{◌≡◌, inl, inr, ℕ, Bool, true, false, cond, not, ◌||◌, List, [], ◌∷◌, ◌++◌, map}
use Rattle.std.proofs.Common.{refl, sym, ap, ◌∙◌, subst, Option, Some, None, option_map, unwrap_or}
use Rattle.std.specs.Prelude.{◌==◌}
use Rattle.std.specs.List.{filter}
use Rattle.std.specs.Ordering.{eq_by_cmp}
use Rattle.std.proofs.lemmas.Bool.{true≢false, or_left, or_right, or_cases, or_from, false_from_ne_true, eqb-true}
use Rattle.std.proofs.lemmas.List.{append_assoc, map-append}
use Rattle.repo_plan.specs.declared.part.Part.{Part}
use Rattle.sorted_lists.specs.SortedList.{contains, Rises, insert_key, insert_keys}
use Rattle.repo_plan.specs.Parts.{Pair, pair_cmp, part_cmp, pair_of, part_of}
use Rattle.repo_plan.proofs.Orders.{exact_parts, exact_pairs}
use Rattle.sorted_lists.proofs.Sets.{eq_same, eq_itself, contains-insert_key, contains-insert_keys, rises_insert}
use Rattle.sorted_lists.proofs.Sets.{rises_insert_keys, or_swap}
use Rattle.sorted_lists.proofs.SameSets.{same_sets}
use Rattle.repo_object.specs.Verdict.{stated_in}
use Rattle.repo_holdings.specs.Gaining.{summary_of}
use Rattle.repo_holdings.specs.declared.holdings.taking.Tried.{Tried}
use Rattle.repo_holdings.specs.Taking.{Fetched, PartsDiffer, came}
use Rattle.repo_watch.specs.declared.pattern.Pattern.{Pattern}
use Rattle.repo_mirror.specs.Passing.{is_summary_for, is_packet_for, is_fetch_for, fetches_for, not_kept}
use Rattle.repo_mirror.specs.Passing.{passed_over}

-- one key may come before the others
pub first_or_last : (k : Pair) (ks xs : List Pair) → Rises pair_cmp xs
    → insert_keys pair_cmp ks (insert_key pair_cmp k xs) ≡ insert_key pair_cmp k (insert_keys pair_cmp ks xs)
first_or_last k ks xs r =
    same_sets exact_pairs (insert_keys pair_cmp ks (insert_key pair_cmp k xs))
    (insert_key pair_cmp k (insert_keys pair_cmp ks xs))
    (rises_insert_keys exact_pairs ks (insert_key pair_cmp k xs) (rises_insert exact_pairs.total k xs r))
    (rises_insert exact_pairs.total k (insert_keys pair_cmp ks xs) (rises_insert_keys exact_pairs ks xs r)) (λ q.
    contains-insert_keys exact_pairs ks (insert_key pair_cmp k xs) q
    ∙ ap (λ (b : Bool). contains pair_cmp ks q || b) (contains-insert_key exact_pairs k xs q)
    ∙ or_swap (contains pair_cmp ks q) (eq_by_cmp pair_cmp q k) (contains pair_cmp xs q)
    ∙ ap (λ (b : Bool). eq_by_cmp pair_cmp q k || b) (sym (contains-insert_keys exact_pairs ks xs q))
    ∙ sym (contains-insert_key exact_pairs k (insert_keys pair_cmp ks xs) q))

-- ---- what isn't kept is a record

module _ (pattern : Pattern) where
  received_record : (t : Part) (octets : List ℕ) → is_packet_for pattern t octets ≡ false → t.part ≡ 0
  received_record t octets h = go (t.part == 0) refl h where
    go : (b : Bool) → (t.part == 0) ≡ b
        → is_summary_for pattern t.publisher (cond b (option_map summary_of (stated_in octets)) None) ≡ false → t.part
        ≡ 0
    go true e k = eqb-true t.part 0 e
    go false e k = absurd (true≢false k)

  pub passed_record : (x : Fetched) → is_fetch_for pattern x ≡ false → x.part.part ≡ 0
  passed_record x h = go x.packet h where
    go : (o : Option (List ℕ)) → unwrap_or (option_map (is_packet_for pattern x.part) o) true ≡ false
        → x.part.part ≡ 0
    go None k = absurd (true≢false k)
    go (Some octets) k = received_record x.part octets k

  -- ---- one part more

  abbrev pub parts_in : List Fetched → List Part
  parts_in xs = map (λ (x : Fetched). x.part) xs

  pub kept_first : (x : Fetched) (xs : List Fetched) → is_fetch_for pattern x ≡ true
      → fetches_for pattern (x ∷ xs) ≡ x ∷ fetches_for pattern xs
  kept_first x xs h =
      ap (λ (b : Bool). cond b (x ∷ fetches_for pattern xs) (fetches_for pattern xs)) h

  pub passed_none : (x : Fetched) (xs : List Fetched) → is_fetch_for pattern x ≡ true
      → not_kept pattern (x ∷ xs) ≡ not_kept pattern xs
  passed_none x xs h = ap (λ (b : Bool). map (λ (y : Fetched). pair_of y.part)
      (cond (not b) (x ∷ filter (λ y. not (is_fetch_for pattern y)) xs)
      (filter (λ y. not (is_fetch_for pattern y)) xs))) h

  pub kept_none : (x : Fetched) (xs : List Fetched) → is_fetch_for pattern x ≡ false
      → fetches_for pattern (x ∷ xs) ≡ fetches_for pattern xs
  kept_none x xs h =
      ap (λ (b : Bool). cond b (x ∷ fetches_for pattern xs) (fetches_for pattern xs)) h

  pub passed_first : (x : Fetched) (xs : List Fetched) → is_fetch_for pattern x ≡ false
      → not_kept pattern (x ∷ xs) ≡ pair_of x.part ∷ not_kept pattern xs
  passed_first x xs h = ap (λ (b : Bool). map (λ (y : Fetched). pair_of y.part)
      (cond (not b) (x ∷ filter (λ y. not (is_fetch_for pattern y)) xs)
      (filter (λ y. not (is_fetch_for pattern y)) xs))) h

  -- ---- one step

  module _ (x : Fetched) (later rest : List Fetched) (is : rest ≡ x ∷ later) where
    module _ (kept : is_fetch_for pattern x ≡ true) where
      pub kept_step : (ys : List Tried) (y : Tried) → came y ≡ x
          → map came (ys ++ y ∷ []) ++ fetches_for pattern later ≡ map came ys ++ fetches_for pattern rest
      kept_step ys y same =
          ap (λ (zs : List Fetched). zs ++ fetches_for pattern later) (map-append came ys (y ∷ []))
          ∙ append_assoc (map came ys) (came y ∷ []) (fetches_for pattern later)
          ∙ ap (λ (z : Fetched). map came ys ++ z ∷ fetches_for pattern later) same
          ∙ ap (λ (zs : List Fetched). map came ys ++ zs) (sym (kept_first x later kept))
          ∙ ap (λ (zs : List Fetched). map came ys ++ fetches_for pattern zs) (sym is)

      pub passed_still : (ps : List Pair)
          → insert_keys pair_cmp (not_kept pattern later) ps ≡ insert_keys pair_cmp (not_kept pattern rest) ps
      passed_still ps =
          ap (λ (ks : List Pair). insert_keys pair_cmp ks ps) (sym (passed_none x later kept))
          ∙ ap (λ (zs : List Fetched). insert_keys pair_cmp (not_kept pattern zs) ps) (sym is)

    module _ (passed : is_fetch_for pattern x ≡ false) where
      pub kept_still : (zs : List Fetched) → zs ++ fetches_for pattern later ≡ zs ++ fetches_for pattern rest
      kept_still zs =
          ap (λ (ys : List Fetched). zs ++ ys) (sym (kept_none x later passed))
          ∙ ap (λ (ys : List Fetched). zs ++ fetches_for pattern ys) (sym is)

      pub passed_step : (ps : List Pair) → Rises pair_cmp ps
          → insert_keys pair_cmp (not_kept pattern later) (insert_key pair_cmp (pair_of x.part) ps)
          ≡ insert_keys pair_cmp (not_kept pattern rest) ps
      passed_step ps rises =
          first_or_last (pair_of x.part) (not_kept pattern later) ps rises
          ∙ ap (λ (ks : List Pair). insert_keys pair_cmp ks ps) (sym (passed_first x later passed))
          ∙ ap (λ (ys : List Fetched). insert_keys pair_cmp (not_kept pattern ys) ps) (sym is)

  -- ---- parts that differ

  kept_among : (xs : List Fetched) (t : Part) → contains part_cmp (parts_in (fetches_for pattern xs)) t ≡ true
      → contains part_cmp (parts_in xs) t ≡ true
  kept_among [] t h = h
  kept_among (x ∷ xs) t h = go (is_fetch_for pattern x) (kept_among xs t) h where
    go : (b : Bool)
        → (contains part_cmp (parts_in (fetches_for pattern xs)) t ≡ true → contains part_cmp (parts_in xs) t ≡ true)
        → contains part_cmp (parts_in (cond b (x ∷ fetches_for pattern xs) (fetches_for pattern xs))) t ≡ true
        → (eq_by_cmp part_cmp t x.part || contains part_cmp (parts_in xs) t) ≡ true
    go true more c =
        elim (or_cases (eq_by_cmp part_cmp t x.part) (contains part_cmp (parts_in (fetches_for pattern xs)) t) c) [
          | inl e ↦ or_left (eq_by_cmp part_cmp t x.part) (contains part_cmp (parts_in xs) t) e
          | inr i ↦ or_right (eq_by_cmp part_cmp t x.part) (contains part_cmp (parts_in xs) t) (more i)
        ]
    go false more c = or_right (eq_by_cmp part_cmp t x.part) (contains part_cmp (parts_in xs) t) (more c)

  pub kept_differ : (xs : List Fetched) → PartsDiffer (parts_in xs) → PartsDiffer (parts_in (fetches_for pattern xs))
  kept_differ [] d = tt
  kept_differ (x ∷ xs) d = go (is_fetch_for pattern x) (kept_differ xs d.1) where
    go : (b : Bool) → PartsDiffer (parts_in (fetches_for pattern xs))
        → PartsDiffer (parts_in (cond b (x ∷ fetches_for pattern xs) (fetches_for pattern xs)))
    go true more = (
      false_from_ne_true (contains part_cmp (parts_in (fetches_for pattern xs)) x.part)
          (λ c. true≢false (sym (kept_among xs x.part c) ∙ d.0)),
      more,
    )
    go false more = more

  same_record : (t u : Part) → t.part ≡ 0 → u.part ≡ 0 → eq_by_cmp pair_cmp (pair_of t) (pair_of u) ≡ true → t ≡ u
  same_record t u a b e =
      let pair : pair_of t ≡ pair_of u = eq_same exact_pairs (pair_of t) (pair_of u) e in
      let part : t.part ≡ u.part = a ∙ sym b in λ i. part_of (pair i) (part i)

  -- the record of what is passed over is among the parts
  passed_among : (xs : List Fetched) (t : Part) → t.part ≡ 0
      → contains pair_cmp (not_kept pattern xs) (pair_of t) ≡ true → contains part_cmp (parts_in xs) t ≡ true
  passed_among [] t z h = h
  passed_among (x ∷ xs) t z h =
      go (λ c. or_right (eq_by_cmp part_cmp t x.part) (contains part_cmp (parts_in xs) t) (passed_among xs t z c))
      (is_fetch_for pattern x) refl where
        go : (contains pair_cmp (not_kept pattern xs) (pair_of t) ≡ true
            → contains part_cmp (parts_in (x ∷ xs)) t ≡ true)
            → (b : Bool) → is_fetch_for pattern x ≡ b → contains part_cmp (parts_in (x ∷ xs)) t ≡ true
        go rest true k = rest (ap (λ (ps : List Pair). contains pair_cmp ps (pair_of t)) (sym (passed_none x xs k)) ∙ h)
        go rest false k =
            elim (or_cases (eq_by_cmp pair_cmp (pair_of t) (pair_of x.part))
            (contains pair_cmp (not_kept pattern xs) (pair_of t))
            (ap (λ (ps : List Pair). contains pair_cmp ps (pair_of t)) (sym (passed_first x xs k)) ∙ h)) [
              | inl e ↦
                  let same : t ≡ x.part = same_record t x.part z (passed_record x k) e in
                  or_left (eq_by_cmp part_cmp t x.part) (contains part_cmp (parts_in xs) t)
                  (ap (eq_by_cmp part_cmp t) (sym same) ∙ eq_itself exact_parts t)
              | inr c ↦ rest c
            ]

  -- a record that is kept is none of those that are passed over
  kept_not_passed : (xs : List Fetched) → PartsDiffer (parts_in xs) → (t : Part) → t.part ≡ 0
      → contains part_cmp (parts_in (fetches_for pattern xs)) t ≡ true
      → contains pair_cmp (not_kept pattern xs) (pair_of t) ≡ false
  kept_not_passed [] d t z h = refl
  kept_not_passed (x ∷ xs) d t z h = go (kept_not_passed xs d.1 t z) (is_fetch_for pattern x) refl where
    not_again : contains part_cmp (parts_in xs) t ≡ true → t ≡ x.part → ⊥
    not_again c same =
        true≢false (sym (subst (λ (u : Part). contains part_cmp (parts_in xs) u ≡ true) same c) ∙ d.0)

    go : (contains part_cmp (parts_in (fetches_for pattern xs)) t ≡ true
        → contains pair_cmp (not_kept pattern xs) (pair_of t) ≡ false)
        → (b : Bool) → is_fetch_for pattern x ≡ b → contains pair_cmp (not_kept pattern (x ∷ xs)) (pair_of t) ≡ false
    go rest true k =
        ap (λ (ps : List Pair). contains pair_cmp ps (pair_of t)) (passed_none x xs k)
        ∙ elim (or_cases (eq_by_cmp part_cmp t x.part) (contains part_cmp (parts_in (fetches_for pattern xs)) t)
        (ap (λ (ys : List Fetched). contains part_cmp (parts_in ys) t) (sym (kept_first x xs k)) ∙ h)) [
          | inl e ↦
              false_from_ne_true (contains pair_cmp (not_kept pattern xs) (pair_of t))
              (λ c. not_again (passed_among xs t z c) (eq_same exact_parts t x.part e))
          | inr i ↦ rest i
        ]
    go rest false k =
        let later : contains part_cmp (parts_in (fetches_for pattern xs)) t ≡ true =
        ap (λ (ys : List Fetched). contains part_cmp (parts_in ys) t) (sym (kept_none x xs k)) ∙ h in
        ap (λ (ps : List Pair). contains pair_cmp ps (pair_of t)) (passed_first x xs k)
        ∙ or_from (eq_by_cmp pair_cmp (pair_of t) (pair_of x.part))
        (contains pair_cmp (not_kept pattern xs) (pair_of t))
        (false_from_ne_true (eq_by_cmp pair_cmp (pair_of t) (pair_of x.part)) (λ e.
        not_again (kept_among xs t later) (same_record t x.part z (passed_record x k) e)))
        (rest later)

  pub kept_apart : (xs : List Fetched) → PartsDiffer (parts_in xs) → (t : Part) → t.part ≡ 0
      → contains part_cmp (parts_in (fetches_for pattern xs)) t ≡ true
      → contains pair_cmp (passed_over pattern xs) (pair_of t) ≡ false
  kept_apart xs d t z h =
      contains-insert_keys exact_pairs (not_kept pattern xs) [] (pair_of t)
      ∙ or_from (contains pair_cmp (not_kept pattern xs) (pair_of t)) false (kept_not_passed xs d t z h) refl
