-- One more key in a set that is kept as runs: it is a run of its own, or it makes a run longer, or it joins two.
use Rattle.std.proofs.Common.{◌≡◌, ◌⊎◌, inl, inr, Bool, true, false, cond, ◌||◌, List, [], ◌∷◌, Option, Some, None}
use Rattle.std.proofs.Common.{refl, sym, ap, ◌∙◌, subst}
use Rattle.std.proofs.lemmas.Bool.{true≢false, or_cases, or_left, or_right, false_from_ne_true}
use Rattle.std.specs.Ordering.{eq_by_cmp, is_le}
use Rattle.std.specs.declared.cmp.Ordering.{Ordering}
use Rattle.std.specs.declared.cmp.Ordering.TheVariants.{Less}
use Rattle.std.specs.Cmp.{both_ways}
use Rattle.sorted_lists.specs.SortedList.{keys, Rises, value_of, with_value, without_key, last_up_to, first_from}
use Rattle.sorted_lists.specs.Runs.{has, AreRuns, start_at, end_at}
use Rattle.sorted_lists.proofs.Orders.{Exact}
use Rattle.sorted_lists.proofs.Sets.{In, rises_with_value, in_map, from_map, before_more, before_each, each_before}
use Rattle.sorted_lists.proofs.Sets.{eq_same, eq_itself}
use Rattle.sorted_lists.proofs.MapChanges.{rises_without, without_absent}
use Rattle.sorted_lists.proofs.RunOrder.{tri, lt_le, le_itself, lt_irrefl, le_split, lt_trans, lt_le_trans}
use Rattle.sorted_lists.proofs.RunOrder.{le_lt_trans, le_trans, lt_not_le, in_with, with_has, with_in, in_without}
use Rattle.sorted_lists.proofs.RunOrder.{without_in, unique, after_head, IsLast, none_up_to, last_is, IsFirst}
use Rattle.sorted_lists.proofs.RunOrder.{none_from_on, first_is, has_in, IsIn, has_from}

-- what a key and the next one are to each other
pub record Follows {K : Type 0} (R : K → K → Ordering) (next : K → K) : Type 0 where
  pub exact : Exact R
  pub up : (x : K) → R x (next x) ≡ Less
  pub step : (x y : K) → R x y ≡ Less → is_le (R (next x) y) ≡ true

module _ {K : Type 0} {R : K → K → Ordering} {next : K → K} (f : Follows R next) where
  abbrev pub Below : K → K → Type 0
  Below x y = R x y ≡ Less

  abbrev pub UpTo : K → K → Type 0
  UpTo x y = is_le (R x y) ≡ true

  -- ---- runs by their members

  pub runs_rise : (es : List (K × K)) → AreRuns R next es → Rises R (keys es)
  runs_rise [] a = tt
  runs_rise (x ∷ xs) a = (
    before_more f.exact.total x.0 (next x.1) (keys xs) (le_lt_trans f.exact x.0 x.1 (next x.1) a.0 (f.up x.1)) a.1,
    runs_rise xs a.2,
  )

  pub not_empty : (es : List (K × K)) → AreRuns R next es → (r : K × K) → In r es → UpTo r.0 r.1
  not_empty [] a r i = absurd i
  not_empty (x ∷ xs) a r (inl s) = subst (λ (w : K × K). UpTo w.0 w.1) (sym s) a.0
  not_empty (x ∷ xs) a r (inr i) = not_empty xs a.2 r i

  pub apart : (es : List (K × K)) → AreRuns R next es → (a b : K × K) → In a es → In b es → Below a.0 b.0
      → Below (next a.1) b.0
  apart [] t a b i j p = absurd i
  apart (x ∷ xs) t a b (inl s) (inl u) p =
      absurd (lt_irrefl f.exact x.0 (subst (λ (w : K × K). Below x.0 w.0) u (subst (λ (w : K × K). Below w.0 b.0) s p)))
  apart (x ∷ xs) t a b (inl s) (inr j) p =
      subst (λ (w : K × K). Below (next w.1) b.0) (sym s)
      (each_before f.exact.total (next x.1) (keys xs) t.1 b.0 (in_map (λ (z : K × K). z.0) xs b j))
  apart (x ∷ xs) t a b (inr i) (inl u) p =
      let back : Below x.0 a.0 = after_head f.exact x xs (runs_rise (x ∷ xs) t) a i in
      absurd (lt_irrefl f.exact x.0 (lt_trans f.exact x.0 a.0 x.0 back (subst (λ (w : K × K). Below a.0 w.0) u p)))
  apart (x ∷ xs) t a b (inr i) (inr j) p = apart xs t.2 a b i j p

  pub are_runs : (es : List (K × K)) → Rises R (keys es) → ((r : K × K) → In r es → UpTo r.0 r.1)
      → ((a b : K × K) → In a es → In b es → Below a.0 b.0 → Below (next a.1) b.0) → AreRuns R next es
  are_runs [] u n h = tt
  are_runs (x ∷ xs) u n h = (
    n x (inl refl),
    before_each f.exact.total (next x.1) (keys xs) (λ y i.
        let r : (b : K × K) × (In b xs) × (y ≡ b.0) = from_map (λ (z : K × K). z.0) xs y i in
        subst (λ (w : K). Below (next x.1) w) (sym r.2)
        (h x r.0 (inl refl) (inr r.1) (after_head f.exact x xs u r.0 r.1))),
    are_runs xs u.1 (λ r i. n r (inr i)) (λ a b i j. h a b (inr i) (inr j)),
  )

  -- ---- where the run of one more key begins and ends

  pub data Start (es : List (K × K)) (q s : K) : Type 0 where
    begins : s ≡ q → ((r : K × K) → In r es → Below r.0 q → Below (next r.1) q) → Start es q s
    goes_on : (r : K × K) → In r es → r.0 ≡ s → next r.1 ≡ q → Start es q s

  pub data End (es : List (K × K)) (q t : K) : Type 0 where
    ends : t ≡ q → ((r : K × K) → In r es → Below q r.0 → Below (next q) r.0) → End es q t
    joins : (r : K × K) → In r es → r.0 ≡ next q → r.1 ≡ t → End es q t

  module _ (es : List (K × K)) (a : AreRuns R next es) (q : K) (lacks : has R es q ≡ false) where
    rises : Rises R (keys es)
    rises = runs_rise es a

    not_in : (r : K × K) → In r es → UpTo r.0 q → UpTo q r.1 → ⊥
    not_in r i l u = true≢false (sym (has_in f.exact es q r i l u) ∙ lacks)

    -- the run in front, unless it touches the key, ends further in front
    pub begins_none : last_up_to R q es ≡ None → Start es q q
    begins_none h =
        begins refl
        (λ r i p. absurd (lt_irrefl f.exact q (lt_trans f.exact q r.0 q (none_up_to f.exact q es rises h r i) p)))

    pub begins_apart : (y : K × K) → last_up_to R q es ≡ Some y → (next y.1 ≡ q → ⊥) → Start es q q
    begins_apart y h n = begins refl go where
      l : IsLast f.exact q es y
      l = last_is f.exact q es rises y h

      ended : Below y.1 q
      ended = elim (tri f.exact y.1 q) [
        | inl b ↦ b
        | inr c ↦
            absurd (not_in y l.is_in l.within (elim c [
              | inl s ↦ subst (λ (w : K). UpTo q w) (sym s) (le_itself f.exact q)
              | inr g ↦ lt_le f.exact q y.1 g
            ]))
      ]

      far : Below (next y.1) q
      far = elim (le_split f.exact (next y.1) q (f.step y.1 q ended)) [ inl b ↦ b | inr s ↦ absurd (n s) ]

      go : (r : K × K) → In r es → Below r.0 q → Below (next r.1) q
      go r i p = elim (l.others r i) [
        | inl b ↦ elim (le_split f.exact r.0 y.0 b) [
          | inl c ↦ lt_le_trans f.exact (next r.1) y.0 q (apart es a r y i l.is_in c) l.within
          | inr s ↦ subst (λ (w : K × K). Below (next w.1) q) (sym (unique f.exact es rises r y i l.is_in s)) far
        ]
        | inr b ↦ absurd (lt_irrefl f.exact q (lt_trans f.exact q r.0 q b p))
      ]

    pub goes_on_last : (y : K × K) → last_up_to R q es ≡ Some y → next y.1 ≡ q → Start es q y.0
    goes_on_last y h t = goes_on y (last_is f.exact q es rises y h).is_in refl t

    pub ends_none : first_from R q es ≡ None → End es q q
    ends_none h =
        ends refl (λ r i p. absurd (lt_irrefl f.exact q (lt_trans f.exact q r.0 q p (none_from_on f.exact q es h r i))))

    pub ends_apart : (y : K × K) → first_from R q es ≡ Some y → (y.0 ≡ next q → ⊥) → End es q q
    ends_apart y h n = ends refl go where
      l : IsFirst f.exact q es y
      l = first_is f.exact q es rises y h

      after : Below q y.0
      after = elim (le_split f.exact q y.0 l.above) [
        | inl b ↦ b
        | inr s ↦
            absurd (not_in y l.is_in (subst (λ (w : K). UpTo w q) s (le_itself f.exact q))
            (subst (λ (w : K). UpTo w y.1) (sym s) (not_empty es a y l.is_in)))
      ]

      far : Below (next q) y.0
      far = elim (le_split f.exact (next q) y.0 (f.step q y.0 after)) [ inl b ↦ b | inr s ↦ absurd (n (sym s)) ]

      go : (r : K × K) → In r es → Below q r.0 → Below (next q) r.0
      go r i p = elim (l.others r i) [
        | inl b ↦ absurd (lt_irrefl f.exact q (lt_trans f.exact q r.0 q p b))
        | inr b ↦ lt_le_trans f.exact (next q) y.0 r.0 far b
      ]

    none_there : (k : K) (xs : List (K × K)) → ((r : K × K) → In r xs → r.0 ≡ k → ⊥) → value_of R xs k ≡ None
    none_there k [] n = refl
    none_there k (x ∷ xs) n =
        ap (λ (b : Bool). cond b (Some x.1) (value_of R xs k))
        (false_from_ne_true (eq_by_cmp R k x.0) (λ h. n x (inl refl) (sym (eq_same f.exact k x.0 h))))
        ∙ none_there k xs (λ r i. n r (inr i))

    pub ends_whole : ((r : K × K) → In r es → Below q r.0 → Below (next q) r.0) → without_key R (next q) es ≡ es
    ends_whole n = without_absent f.exact.total (next q) es rises (none_there (next q) es (λ r i s.
        lt_irrefl f.exact (next q)
        (subst (λ (w : K). Below (next q) w) s (n r i (subst (λ (w : K). Below q w) (sym s) (f.up q))))))

    -- both from what a look-up finds
    pub start_found : (found : Option (K × K)) → last_up_to R q es ≡ found → Start es q (start_at R next found q)
    start_found None h = begins_none h
    start_found (Some y) h = go (eq_by_cmp R (next y.1) q) refl where
      go : (b : Bool) → eq_by_cmp R (next y.1) q ≡ b → Start es q (cond b y.0 q)
      go true p = goes_on_last y h (eq_same f.exact (next y.1) q p)
      go false p =
          begins_apart y h
          (λ s.
          true≢false (sym (subst (λ (w : K). eq_by_cmp R (next y.1) w ≡ true) s (eq_itself f.exact (next y.1))) ∙ p))

    pub joins_first : (y : K × K) → first_from R q es ≡ Some y → y.0 ≡ next q → End es q y.1
    joins_first y h s = joins y (first_is f.exact q es rises y h).is_in s refl

    -- ---- the runs with it

    module _ (s t : K) (start : Start es q s) (end : End es q t) where
      abbrev pub longer : List (K × K)
      longer = with_value R s t (without_key R (next q) es)

      rest_rises : Rises R (keys (without_key R (next q) es))
      rest_rises = rises_without f.exact.total (next q) es rises

      from_longer : (r : K × K) → In r longer → (r ≡ (s, t)) ⊎ ((In r es) × ((r.0 ≡ next q → ⊥) × (r.0 ≡ s → ⊥)))
      from_longer r i = elim (in_with f.exact s t (without_key R (next q) es) rest_rises r i) [
        | inl e ↦ inl e
        | inr b ↦
            let w : (In r es) × (r.0 ≡ next q → ⊥) = in_without f.exact (next q) es rises r b.0 in inr (w.0, (w.1, b.1))
      ]

      in_longer : (r : K × K) → In r es → (r.0 ≡ next q → ⊥) → (r.0 ≡ s → ⊥) → In r longer
      in_longer r i n m = with_in f.exact s t (without_key R (next q) es) r (without_in f.exact (next q) es r i n) m

      new_in : In (s, t) longer
      new_in = with_has f.exact s t (without_key R (next q) es)

      start_le : UpTo s q
      start_le = go start where
        go : Start es q s → UpTo s q
        go (begins e n) = subst (λ (w : K). UpTo w q) (sym e) (le_itself f.exact q)
        go (goes_on r i e g) =
            subst (λ (w : K). UpTo w q) e
            (lt_le f.exact r.0 q
            (subst (λ (w : K). Below r.0 w) g (le_lt_trans f.exact r.0 r.1 (next r.1) (not_empty es a r i) (f.up r.1))))

      le_end : UpTo q t
      le_end = go end where
        go : End es q t → UpTo q t
        go (ends e n) = subst (λ (w : K). UpTo q w) (sym e) (le_itself f.exact q)
        go (joins r i e g) =
            subst (λ (w : K). UpTo q w) g
            (lt_le f.exact q r.1
            (lt_le_trans f.exact q r.0 r.1 (subst (λ (w : K). Below q w) (sym e) (f.up q)) (not_empty es a r i)))

      -- no run begins between
      after_start : (r : K × K) → In r es → Below s r.0 → Below q r.0
      after_start r i p = go start where
        go : Start es q s → Below q r.0
        go (begins e n) = subst (λ (w : K). Below w r.0) e p
        go (goes_on u j e g) =
            subst (λ (w : K). Below w r.0) g (apart es a u r j i (subst (λ (w : K). Below w r.0) (sym e) p))

      after_end : (r : K × K) → In r es → (r.0 ≡ next q → ⊥) → Below q r.0 → Below (next t) r.0
      after_end r i n p = go end where
        go : End es q t → Below (next t) r.0
        go (ends e m) = subst (λ (w : K). Below (next w) r.0) (sym e) (m r i p)
        go (joins u j e g) =
            let beyond : Below u.0 r.0 = elim (le_split f.exact (next q) r.0 (f.step q r.0 p)) [
              | inl b ↦ subst (λ (w : K). Below w r.0) (sym e) b
              | inr z ↦ absurd (n (sym z))
            ] in
            subst (λ (w : K). Below (next w) r.0) g (apart es a u r j i beyond)

      before_start : (r : K × K) → In r es → Below r.0 s → Below (next r.1) s
      before_start r i p = go start where
        go : Start es q s → Below (next r.1) s
        go (begins e n) = subst (λ (w : K). Below (next r.1) w) (sym e) (n r i (subst (λ (w : K). Below r.0 w) e p))
        go (goes_on u j e g) =
            subst (λ (w : K). Below (next r.1) w) e (apart es a r u i j (subst (λ (w : K). Below r.0 w) (sym e) p))

      pub longer_runs : AreRuns R next longer
      longer_runs = are_runs longer (rises_with_value f.exact s t (without_key R (next q) es) rest_rises) full far where
        full : (r : K × K) → In r longer → UpTo r.0 r.1
        full r i = elim (from_longer r i) [
          | inl e ↦ subst (λ (w : K × K). UpTo w.0 w.1) (sym e) (le_trans f.exact s q t start_le le_end)
          | inr b ↦ not_empty es a r b.0
        ]

        far : (x y : K × K) → In x longer → In y longer → Below x.0 y.0 → Below (next x.1) y.0
        far x y i j p = elim (from_longer x i) [
          | inl e ↦ elim (from_longer y j) [
            | inl g ↦
                absurd
                (lt_irrefl f.exact s (subst (λ (w : K × K). Below s w.0) g (subst (λ (w : K × K). Below w.0 y.0) e p)))
            | inr b ↦
                subst (λ (w : K × K). Below (next w.1) y.0) (sym e)
                (after_end y b.0 b.1.0 (after_start y b.0 (subst (λ (w : K × K). Below w.0 y.0) e p)))
          ]
          | inr c ↦ elim (from_longer y j) [
            | inl g ↦
                subst (λ (w : K × K). Below (next x.1) w.0) (sym g)
                (before_start x c.0 (subst (λ (w : K × K). Below x.0 w.0) g p))
            | inr b ↦ apart es a x y c.0 b.0 p
          ]
        ]

      -- ---- which keys are in them

      new_from : (x : K) → UpTo s x → UpTo x t → (x ≡ q) ⊎ (has R es x ≡ true)
      new_from x l u = elim (tri f.exact x q) [
        | inl b ↦ inr (prefix start b)
        | inr c ↦ elim c [ inl e ↦ inl e | inr g ↦ inr (back end g) ]
      ] where
        prefix : Start es q s → Below x q → has R es x ≡ true
        prefix (begins e n) b = absurd (lt_not_le f.exact x q b (subst (λ (w : K). UpTo w x) e l))
        prefix (goes_on r i e g) b =
            let within : UpTo x r.1 = elim (tri f.exact x r.1) [
              | inl c ↦ lt_le f.exact x r.1 c
              | inr c ↦ elim c [
                | inl z ↦ subst (λ (w : K). UpTo x w) z (le_itself f.exact x)
                | inr z ↦ absurd (lt_not_le f.exact x q b (subst (λ (w : K). UpTo w x) g (f.step r.1 x z)))
              ]
            ] in
            has_in f.exact es x r i (subst (λ (w : K). UpTo w x) (sym e) l) within

        back : End es q t → Below q x → has R es x ≡ true
        back (ends e n) b = absurd (lt_not_le f.exact q x b (subst (λ (w : K). UpTo x w) e u))
        back (joins r i e g) b =
            has_in f.exact es x r i (subst (λ (w : K). UpTo w x) (sym e) (f.step q x b))
            (subst (λ (w : K). UpTo x w) (sym g) u)

      old_still : (x : K) → has R es x ≡ true → has R longer x ≡ true
      old_still x h = go (has_from f.exact es x h) where
        wide : UpTo s x → UpTo x t → has R longer x ≡ true
        wide l u = has_in f.exact longer x (s, t) new_in l u

        joined : (r : K × K) → In r es → r.0 ≡ next q → UpTo r.0 x → UpTo x r.1 → End es q t → has R longer x ≡ true
        joined r i z l u (ends e n) =
            absurd (lt_irrefl f.exact (next q)
            (subst (λ (w : K). Below (next q) w) z (n r i (subst (λ (w : K). Below q w) (sym z) (f.up q)))))
        joined r i z l u (joins v j e g) =
            let same : r ≡ v = unique f.exact es rises r v i j (z ∙ sym e) in
            wide (le_trans f.exact s q x start_le
            (lt_le f.exact q x (lt_le_trans f.exact q (next q) x (f.up q) (subst (λ (w : K). UpTo w x) z l))))
            (subst (λ (w : K). UpTo x w) (ap (λ (w : K × K). w.1) same ∙ g) u)

        begun : (r : K × K) → In r es → r.0 ≡ s → UpTo r.0 x → UpTo x r.1 → Start es q s → has R longer x ≡ true
        begun r i z l u (begins e n) =
            absurd (not_in r i (subst (λ (w : K). UpTo w q) (sym (z ∙ e)) (le_itself f.exact q))
            (subst (λ (w : K). UpTo w r.1) (z ∙ e) (not_empty es a r i)))
        begun r i z l u (goes_on v j e g) =
            let same : r ≡ v = unique f.exact es rises r v i j (z ∙ sym e) in
            let ended : Below r.1 q =
            subst (λ (w : K). Below r.1 w) (ap (λ (w : K × K). next w.1) same ∙ g) (f.up r.1) in
            wide (subst (λ (w : K). UpTo w x) z l)
            (le_trans f.exact x q t (lt_le f.exact x q (le_lt_trans f.exact x r.1 q u ended)) le_end)

        go : IsIn f.exact es x → has R longer x ≡ true
        go m = elim (tri f.exact m.run.0 (next q)) [
          | inl b ↦ other (λ z. lt_irrefl f.exact (next q) (subst (λ (w : K). Below w (next q)) z b))
          | inr c ↦ elim c [
            | inl z ↦ joined m.run m.is_in z m.above m.within end
            | inr b ↦ other (λ z. lt_irrefl f.exact (next q) (subst (λ (w : K). Below (next q) w) z b))
          ]
        ] where
          kept : (m.run.0 ≡ next q → ⊥) → (m.run.0 ≡ s → ⊥) → has R longer x ≡ true
          kept n k = has_in f.exact longer x m.run (in_longer m.run m.is_in n k) m.above m.within

          other : (m.run.0 ≡ next q → ⊥) → has R longer x ≡ true
          other n = elim (tri f.exact m.run.0 s) [
            | inl b ↦ kept n (λ z. lt_irrefl f.exact s (subst (λ (w : K). Below w s) z b))
            | inr c ↦ elim c [
              | inl z ↦ begun m.run m.is_in z m.above m.within start
              | inr b ↦ kept n (λ z. lt_irrefl f.exact s (subst (λ (w : K). Below s w) z b))
            ]
          ]

      pub longer_has : (x : K) → has R longer x ≡ (eq_by_cmp R x q || has R es x)
      longer_has x = both_ways (has R longer x) (eq_by_cmp R x q || has R es x) there back where
        there : has R longer x ≡ true → (eq_by_cmp R x q || has R es x) ≡ true
        there h = go (has_from f.exact longer x h) where
          go : IsIn f.exact longer x → (eq_by_cmp R x q || has R es x) ≡ true
          go m = elim (from_longer m.run m.is_in) [
            | inl e ↦
                elim (new_from x (subst (λ (w : K × K). UpTo w.0 x) e m.above)
                (subst (λ (w : K × K). UpTo x w.1) e m.within)) [
                  | inl z ↦
                      or_left (eq_by_cmp R x q) (has R es x)
                      (subst (λ (w : K). eq_by_cmp R x w ≡ true) z (eq_itself f.exact x))
                  | inr z ↦ or_right (eq_by_cmp R x q) (has R es x) z
                ]
            | inr b ↦ or_right (eq_by_cmp R x q) (has R es x) (has_in f.exact es x m.run b.0 m.above m.within)
          ]

        back : (eq_by_cmp R x q || has R es x) ≡ true → has R longer x ≡ true
        back h = elim (or_cases (eq_by_cmp R x q) (has R es x) h) [
          | inl z ↦
              let same : x ≡ q = eq_same f.exact x q z in
              has_in f.exact longer x (s, t) new_in (subst (λ (w : K). UpTo s w) (sym same) start_le)
              (subst (λ (w : K). UpTo w t) (sym same) le_end)
          | inr z ↦ old_still x z
        ]

    pub end_found : (found : Option (K × K)) → first_from R q es ≡ found → End es q (end_at R next found q)
    end_found None h = ends_none h
    end_found (Some y) h = go (eq_by_cmp R (next q) y.0) refl where
      go : (b : Bool) → eq_by_cmp R (next q) y.0 ≡ b → End es q (cond b y.1 q)
      go true p = joins_first y h (sym (eq_same f.exact (next q) y.0 p))
      go false p =
          ends_apart y h
          (λ s.
          true≢false (sym (subst (λ (w : K). eq_by_cmp R (next q) w ≡ true) (sym s) (eq_itself f.exact (next q))) ∙ p))

    -- where no run touches it from after, none begins at the next key
    pub whole_none : first_from R q es ≡ None → without_key R (next q) es ≡ es
    whole_none h = go (ends_none h) where
      go : End es q q → without_key R (next q) es ≡ es
      go (ends e n) = ends_whole n
      go (joins r i e g) =
          absurd (lt_irrefl f.exact q
          (lt_trans f.exact q r.0 q (subst (λ (w : K). Below q w) (sym e) (f.up q)) (none_from_on f.exact q es h r i)))

    pub whole_apart : (y : K × K) → first_from R q es ≡ Some y → eq_by_cmp R (next q) y.0 ≡ false
        → without_key R (next q) es ≡ es
    whole_apart y h p =
        without_absent f.exact.total (next q) es rises
        (none_there (next q) es (λ r i s. elim ((first_is f.exact q es rises y h).others r i) [
          | inl b ↦ lt_irrefl f.exact q (lt_trans f.exact q r.0 q (subst (λ (w : K). Below q w) (sym s) (f.up q)) b)
          | inr b ↦ go r s b
        ])) where
          go : (r : K × K) → r.0 ≡ next q → UpTo y.0 r.0 → ⊥
          go r s b =
              let l : IsFirst f.exact q es y = first_is f.exact q es rises y h in
              let apart_from : y.0 ≡ next q → ⊥ =
              λ z. true≢false
              (sym (subst (λ (w : K). eq_by_cmp R (next q) w ≡ true) (sym z) (eq_itself f.exact (next q))) ∙ p) in
              elim (le_split f.exact q y.0 l.above) [
                | inl c ↦ elim (le_split f.exact y.0 (next q) (subst (λ (w : K). UpTo y.0 w) s b)) [
                  | inl d ↦ lt_not_le f.exact y.0 (next q) d (f.step q y.0 c)
                  | inr z ↦ apart_from z
                ]
                | inr z ↦
                    not_in y l.is_in (subst (λ (w : K). UpTo w q) z (le_itself f.exact q))
                    (subst (λ (w : K). UpTo w y.1) (sym z) (not_empty es a y l.is_in))
              ]

  -- ---- one look-up says whether a key is in a run, and where that ends

  module _ (es : List (K × K)) (a : AreRuns R next es) (q : K) where
    pub lacks_none : last_up_to R q es ≡ None → has R es q ≡ false
    lacks_none h = false_from_ne_true (has R es q) (λ p. go (has_from f.exact es q p)) where
      go : IsIn f.exact es q → ⊥
      go m = lt_not_le f.exact q m.run.0 (none_up_to f.exact q es (runs_rise es a) h m.run m.is_in) m.above

    pub has_last : (y : K × K) → last_up_to R q es ≡ Some y → is_le (R q y.1) ≡ has R es q
    has_last y h =
        both_ways (is_le (R q y.1)) (has R es q) (λ p. has_in f.exact es q y l.is_in l.within p)
        (λ p. go (has_from f.exact es q p)) where
          l : IsLast f.exact q es y
          l = last_is f.exact q es (runs_rise es a) y h

          go : IsIn f.exact es q → UpTo q y.1
          go m = elim (l.others m.run m.is_in) [
            | inl b ↦ elim (le_split f.exact m.run.0 y.0 b) [
              | inl c ↦
                  absurd (lt_irrefl f.exact q
                  (le_lt_trans f.exact q m.run.1 q m.within
                  (lt_le_trans f.exact m.run.1 y.0 q
                  (lt_trans f.exact m.run.1 (next m.run.1) y.0 (f.up m.run.1) (apart es a m.run y m.is_in l.is_in c))
                  l.within)))
              | inr s ↦
                  subst (λ (w : K × K). UpTo q w.1) (unique f.exact es (runs_rise es a) m.run y m.is_in l.is_in s)
                  m.within
            ]
            | inr b ↦ absurd (lt_not_le f.exact q m.run.0 b m.above)
          ]

    -- the key after the run's last is in none
    pub gap_after : (y : K × K) → In y es → has R es (next y.1) ≡ false
    gap_after y i = false_from_ne_true (has R es (next y.1)) (λ p. go (has_from f.exact es (next y.1) p)) where
      go : IsIn f.exact es (next y.1) → ⊥
      go m = elim (tri f.exact y.0 m.run.0) [
        | inl b ↦ lt_not_le f.exact (next y.1) m.run.0 (apart es a y m.run i m.is_in b) m.above
        | inr c ↦ elim c [
          | inl s ↦
              lt_not_le f.exact y.1 (next y.1) (f.up y.1)
              (subst (λ (w : K × K). UpTo (next y.1) w.1) (sym (unique f.exact es (runs_rise es a) y m.run i m.is_in s))
              m.within)
          | inr b ↦
              lt_irrefl f.exact m.run.1
              (lt_trans f.exact m.run.1 (next m.run.1) m.run.1 (f.up m.run.1)
              (lt_le_trans f.exact (next m.run.1) y.0 m.run.1 (apart es a m.run y m.is_in i b)
              (le_trans f.exact y.0 y.1 m.run.1 (not_empty es a y i)
              (le_trans f.exact y.1 (next y.1) m.run.1 (lt_le f.exact y.1 (next y.1) (f.up y.1)) m.within))))
        ]
      ]
