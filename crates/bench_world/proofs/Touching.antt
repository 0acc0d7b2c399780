-- The search among publications that were touched, and what is noted of them.
use Rattle.std.proofs.Common.{◌≡◌, inl, inr, ℕ, ◌<◌, Bool, true, false, ◌||◌, ◌&&◌, length, Option}
use Rattle.std.proofs.Common.{Some, None}
use Rattle.std.proofs.Common.{refl, sym, ap, ◌∙◌, subst, arith}
use Rattle.std.specs.List.{filter}
use Rattle.std.specs.Ordering.{is_le, eq_by_cmp}
use Rattle.std.specs.declared.cmp.Ordering.TheVariants.{Less}
use Rattle.std.proofs.lemmas.Bool.{true≢false, false_from_ne_true, and_parts, and_from, or_cases, or_left, or_right}
use Rattle.repo_plan.specs.declared.part.Part.{Part}
use Rattle.sorted_lists.specs.SortedList.{keys, contains, insert_key, Rises, first_from}
use Rattle.sorted_lists.proofs.Sets.{In, contains_in, in_contains, in_map, from_map, contains-insert_key, eq_itself}
use Rattle.sorted_lists.proofs.RunOrder.{lt_le, le_itself, le_split, lt_not_le, lt_le_trans, le_trans}
use Rattle.sorted_lists.proofs.RunOrder.{IsFirst, first_is, none_from_on}
use Rattle.repo_plan.specs.Parts.{Pair, pair_cmp, pair_of, part_of}
use Rattle.repo_plan.specs.Leaps.{is_from, PassesFrom, IsLeastFrom}
use Rattle.repo_plan.proofs.Orders.{exact_pairs, exact_parts}
use Rattle.repo_plan.proofs.Leaps.{le_here, later_less, from_cases}
use Rattle.bench_world.specs.declared.touched.Touched.{Touched}
use Rattle.bench_world.specs.Touching.{touches, Notes}
use Rattle.bench_world.proofs.SetSums.{filter_fewer}

-- A part that isn't below another is of a publication that isn't below the other's.
pair_from : (t u : Part) → is_from t u ≡ true → is_le (pair_cmp (pair_of t) (pair_of u)) ≡ true
pair_from t u l = elim (from_cases t u l) [
  | inl here ↦
      subst (λ (q : Pair). is_le (pair_cmp (pair_of t) q) ≡ true) (sym here.0) (le_itself exact_pairs (pair_of t))
  | inr later ↦ lt_le exact_pairs (pair_of t) (pair_of u) later
]

-- ---- the next part of a touched publication

module _ (n : Touched) (t : Part) where
  pub touched_here : touches n (pair_of t) ≡ true → IsLeastFrom (λ u. touches n (pair_of u)) t (Some t)
  touched_here h = record { there = (le_here (pair_of t) t.part t.part (omega arith), h); least = λ u i. i.0 }

  module _ (not_here : touches n (pair_of t) ≡ false) where
    -- Another one that is touched is listed.
    listed : (u : Part) → touches n (pair_of u) ≡ true
        → (e : Pair × Unit {0}) × (In e n.publications.entries) × (pair_of u ≡ e.0)
    listed u h = elim (or_cases n.all (contains pair_cmp (keys n.publications.entries) (pair_of u)) h) [
      | inl all ↦ absurd (true≢false (sym (or_left n.all _ all) ∙ not_here))
      | inr one ↦
          from_map (λ (e : Pair × Unit {0}). e.0) n.publications.entries (pair_of u)
          (in_contains exact_pairs (keys n.publications.entries) (pair_of u) one)
    ]

    is_touched : (e : Pair × Unit {0}) → In e n.publications.entries → touches n e.0 ≡ true
    is_touched e i =
        or_right n.all (contains pair_cmp (keys n.publications.entries) e.0)
        (contains_in exact_pairs (keys n.publications.entries) e.0
        (in_map (λ (x : Pair × Unit {0}). x.0) n.publications.entries e i))

    pub touched_none : first_from pair_cmp (pair_of t) n.publications.entries ≡ None
        → IsLeastFrom (λ u. touches n (pair_of u)) t None
    touched_none none = λ u i.
        let r = listed u i.1 in
        lt_not_le exact_pairs (pair_of u) (pair_of t)
        (subst (λ (q : Pair). pair_cmp q (pair_of t) ≡ Less) (sym r.2)
        (none_from_on exact_pairs (pair_of t) n.publications.entries none r.0 r.1))
        (pair_from t u i.0)

    pub touched_later : Rises pair_cmp (keys n.publications.entries) → (y : Pair × Unit {0})
        → first_from pair_cmp (pair_of t) n.publications.entries ≡ Some y
        → IsLeastFrom (λ u. touches n (pair_of u)) t (Some (part_of y.0 0))
    touched_later rises y found =
        let f : IsFirst exact_pairs (pair_of t) n.publications.entries y =
        first_is exact_pairs (pair_of t) n.publications.entries rises y found in
        let beyond : is_from t (part_of y.0 0) ≡ true = elim (le_split exact_pairs (pair_of t) y.0 f.above) [
          | inl less ↦ lt_le exact_parts t (part_of y.0 0) (later_less t (part_of y.0 0) less)
          | inr same ↦
              absurd (true≢false (sym (is_touched y f.is_in) ∙ ap (touches n) (sym same) ∙ not_here))
        ] in
        record {
          there = (beyond, is_touched y f.is_in);
          least = λ u i.
              let r = listed u i.1 in
              elim (f.others r.0 r.1) [
                | inl before ↦
                    absurd (lt_not_le exact_pairs (pair_of u) (pair_of t)
                    (subst (λ (q : Pair). pair_cmp q (pair_of t) ≡ Less) (sym r.2) before) (pair_from t u i.0))
                | inr le ↦
                    elim (le_split exact_pairs y.0 (pair_of u)
                    (subst (λ (q : Pair). is_le (pair_cmp y.0 q) ≡ true) (sym r.2) le)) [
                      | inl less ↦ lt_le exact_parts (part_of y.0 0) u (later_less (part_of y.0 0) u less)
                      | inr same ↦
                          ap (λ (q : Pair). is_from (part_of q 0) u) same
                          ∙ le_here (pair_of u) 0 u.part (omega arith)
                    ]
              ];
        }

-- ---- what is noted

module _ (old new : Touched) (pair : Pair) where
  -- One more is listed.
  pub noted_one : new.all ≡ old.all
      → keys new.publications.entries ≡ insert_key pair_cmp pair (keys old.publications.entries) → Notes old pair new
  noted_one all more = record {
    there = listed pair ∙ or_right old.all _
        (or_left (eq_by_cmp pair_cmp pair pair) (lists pair) (eq_itself exact_pairs pair));
    kept = λ q h. listed q ∙ elim (or_cases old.all (lists q) h) [
      | inl a ↦ or_left old.all (eq_by_cmp pair_cmp q pair || lists q) a
      | inr b ↦
          or_right old.all (eq_by_cmp pair_cmp q pair || lists q) (or_right (eq_by_cmp pair_cmp q pair) (lists q) b)
    ];
  } where
    lists : Pair → Bool
    lists q = contains pair_cmp (keys old.publications.entries) q

    listed : (q : Pair) → touches new q ≡ (old.all || (eq_by_cmp pair_cmp q pair || lists q))
    listed q =
        (λ i. all i || contains pair_cmp (more i) q)
        ∙ ap (λ (b : Bool). old.all || b) (contains-insert_key exact_pairs pair (keys old.publications.entries) q)

  pub noted_all : new.all ≡ true → Notes old pair new
  noted_all all = record { there = or_left new.all _ all; kept = λ q h. or_left new.all _ all }

-- ---- the search among lenders

module _ (held_by : Part → Bool) (n : Touched) (t : Part) where
  -- A part that is held and of a touched publication.
  abbrev pub both : Part → Bool
  both u = held_by u && touches n (pair_of u)

  -- From here on the search goes on: at a part of a touched publication that isn't below the first, and below which no
  -- part is lent.
  pub record IsNext (from : Part) : Type 0 where
    pub beyond : is_from t from ≡ true
    pub touched : touches n (pair_of from) ≡ true
    pub above : (u : Part) → PassesFrom both t u → is_from from u ≡ true

  abbrev pub GoesOn : Option Part → Type 0
  GoesOn None = (u : Part) → PassesFrom both t u → ⊥
  GoesOn (Some from) = IsNext from

  lent_is : (u : Part) → both u ≡ true → (held_by u ≡ true) × (touches n (pair_of u) ≡ true)
  lent_is u h = and_parts (held_by u) (touches n (pair_of u)) h

  pub begins : (next : Option Part) → IsLeastFrom (λ u. touches n (pair_of u)) t next → GoesOn next
  begins None h = λ u i. h u (i.0, (lent_is u i.1).1)
  begins (Some from) h = record {
    beyond = h.there.0;
    touched = h.there.1;
    above = λ u i. h.least u (i.0, (lent_is u i.1).1);
  }

  module _ (from : Part) (on : IsNext from) where
    pub none_held : IsLeastFrom held_by from None → IsLeastFrom both t None
    none_held h = λ u i. h u (on.above u i, (lent_is u i.1).0)

    module _ (held : Part) (h : IsLeastFrom held_by from (Some held)) where
      over : (u : Part) → PassesFrom both t u → is_from held u ≡ true
      over u i = h.least u (on.above u i, (lent_is u i.1).0)

      reached : is_from t held ≡ true
      reached = le_trans exact_parts t from held on.beyond h.there.0

      pub held_touched : touches n (pair_of held) ≡ true → IsLeastFrom both t (Some held)
      held_touched e = record {
        there = (reached, and_from (held_by held) (touches n (pair_of held)) h.there.1 e);
        least = over;
      }

      pub goes_on : (next : Option Part) → IsLeastFrom (λ u. touches n (pair_of u)) held next → GoesOn next
      goes_on None k = λ u i. k u (over u i, (lent_is u i.1).1)
      goes_on (Some to) k = record {
        beyond = le_trans exact_parts t held to reached k.there.0;
        touched = k.there.1;
        above = λ u i. k.least u (over u i, (lent_is u i.1).1);
      }

-- The touched publications from a part's on, which become fewer.
abbrev pub left_from : Touched → Option Part → ℕ
left_from n None = 0
left_from n (Some from) = length (filter (λ q. is_le (pair_cmp (pair_of from) q)) (keys n.publications.entries))

pub left_fewer : (held_by : Part → Bool) (n : Touched) (t from held : Part) → IsNext held_by n t from
    → IsLeastFrom held_by from (Some held) → touches n (pair_of held) ≡ false → (next : Option Part)
    → IsLeastFrom (λ u. touches n (pair_of u)) held next → left_from n next < left_from n (Some from)
left_fewer held_by n t from held on h off next k = go next k where
  listed : In (pair_of from) (keys n.publications.entries)
  listed = elim (or_cases n.all (contains pair_cmp (keys n.publications.entries) (pair_of from)) on.touched) [
    | inl all ↦ absurd (true≢false (sym (or_left n.all _ all) ∙ off))
    | inr one ↦ in_contains exact_pairs (keys n.publications.entries) (pair_of from) one
  ]

  passes : is_le (pair_cmp (pair_of from) (pair_of from)) ≡ true
  passes = le_itself exact_pairs (pair_of from)

  go : (next : Option Part) → IsLeastFrom (λ u. touches n (pair_of u)) held next
      → left_from n next < left_from n (Some from)
  go None k =
      let fewer : length (filter (λ q. false) (keys n.publications.entries)) < left_from n (Some from) =
      filter_fewer (λ q. is_le (pair_cmp (pair_of from) q)) (λ q. false) (λ q e. absurd (true≢false (sym e)))
      (keys n.publications.entries) (pair_of from) listed passes refl in
      omega (arith, fewer)
  go (Some to) k =
      let past : pair_cmp (pair_of from) (pair_of held) ≡ Less = elim (from_cases from held h.there.0) [
        | inl here ↦ absurd (true≢false (sym on.touched ∙ ap (touches n) (sym here.0) ∙ off))
        | inr later ↦ later
      ] in
      let beyond = lt_le_trans exact_pairs (pair_of from) (pair_of held) (pair_of to) past
      (pair_from held to k.there.0) in
      filter_fewer (λ q. is_le (pair_cmp (pair_of from) q)) (λ q. is_le (pair_cmp (pair_of to) q))
      (λ q e. lt_le exact_pairs (pair_of from) q (lt_le_trans exact_pairs (pair_of from) (pair_of to) q beyond e))
      (keys n.publications.entries) (pair_of from) listed passes
      (false_from_ne_true (is_le (pair_cmp (pair_of to) (pair_of from))) (λ back.
      lt_not_le exact_pairs (pair_of from) (pair_of to) beyond back))
