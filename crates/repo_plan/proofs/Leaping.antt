-- The search for wanted parts that others hold leaps: what it passes is wanted by none or held by none.
use Rattle.std.proofs.Common.{◌≡◌, ◌⊎◌, inl, inr, ℕ, ◌+◌, ◌≤◌, ◌<◌, Bool, true, false, cond, ◌||◌}
use Rattle.std.proofs.Common.{List, [], ◌∷◌, Option, Some, None, length, get_or, take, refl, sym, ap, ◌∙◌}
use Rattle.std.proofs.Common.{subst, arith}
use Rattle.std.proofs.lemmas.Bool.{true≢false, or_cases, or_left, or_right}
use Rattle.std.proofs.lemmas.List.Folds.{list_any_more}
use Rattle.std.specs.List.{filter}
use Rattle.std.specs.Ordering.{is_lt}
use Rattle.std.specs.declared.cmp.Ordering.{Ordering}
use Rattle.std.specs.declared.cmp.Ordering.TheVariants.{Less, Equal, Greater}
use Rattle.repo_plan.specs.declared.part.Part.{Part}
use Rattle.sorted_lists.specs.Least.{IsFirstBy, lesser_by}
use Rattle.sorted_lists.proofs.Orders.{less_back}
use Rattle.sorted_lists.proofs.Sets.{In, eq_same, contains_in, in_contains, in_filter, rises_filter}
use Rattle.sorted_lists.proofs.Members.{in_at, in_filtered, filter-filter}
use Rattle.sorted_lists.proofs.RunOrder.{lt_le, lt_le_trans, le_lt_trans, le_split}
use Rattle.sorted_lists.proofs.LeastOnes.{first_same, lesser_first}
use Rattle.repo_plan.specs.Parts.{part_cmp}
use Rattle.repo_plan.specs.Plan.{PlanState, is_claim_of, is_unclaimed, unclaimed, first, is_after}
use Rattle.repo_plan.specs.Leaps.{is_from, some_holds, PassesFrom, IsLeastFrom}
use Rattle.repo_plan.proofs.Orders.{exact_parts}
use Rattle.repo_plan.proofs.Known.{contains-unclaimed, unclaimed_rises}
use Rattle.repo_plan.proofs.Scans.{both_tests, after_first}
use Rattle.repo_plan.proofs.Leaps.{PassesIn, least_first, one_least}

-- ---- one more of those who hold parts

module _ {H : Type 0} (has : H → Part → Bool) (t : Part) where
  pub none_yet : (others : List H) → IsLeastFrom (some_holds has (take 0 others)) t None
  none_yet others = λ u i. absurd (true≢false (sym i.1))

  pub one_more : (others : List H) (i : ℕ) (d : H) (a b : Option Part) → i < length others
      → IsLeastFrom (some_holds has (take i others)) t a → IsLeastFrom (has (get_or others i d)) t b
      → IsLeastFrom (some_holds has (take (i + 1) others)) t (lesser_by part_cmp (λ u. u) a b)
  one_more others i d a b l p q =
      first_same exact_parts (λ u. u)
      (λ u. PassesFrom (some_holds has (take i others)) t u ⊎ PassesFrom (has (get_or others i d)) t u)
      (PassesFrom (some_holds has (take (i + 1) others)) t)
      (λ u c. elim c [
        | inl x ↦ (x.0, more u ∙ or_left (some_holds has (take i others) u) _ x.1)
        | inr y ↦ (y.0, more u ∙ or_right (some_holds has (take i others) u) _ y.1)
      ])
      (λ u x. elim (or_cases (some_holds has (take i others) u) (has (get_or others i d) u) (sym (more u) ∙ x.1)) [
        | inl h ↦ inl (x.0, h)
        | inr h ↦ inr (x.0, h)
      ])
      (lesser_by part_cmp (λ u. u) a b)
      (lesser_first exact_parts (λ u. u) (PassesFrom (some_holds has (take i others)) t)
      (PassesFrom (has (get_or others i d)) t) a b p q) where
        more : (u : Part)
            → some_holds has (take (i + 1) others) u
            ≡ (some_holds has (take i others) u || has (get_or others i d) u)
        more u = list_any_more (λ o. has o u) others i d l

  any_in : (others : List H) (o : H) (u : Part) → In o others → has o u ≡ true → some_holds has others u ≡ true
  any_in [] o u i h = absurd i
  any_in (x ∷ xs) o u (inl same) h = or_left (has x u) _ (ap (λ (y : H). has y u) (sym same) ∙ h)
  any_in (x ∷ xs) o u (inr i) h = or_right (has x u) _ (any_in xs o u i h)

  -- one that holds the part itself ends the search
  pub at_once : (others : List H) (i : ℕ) (d : H) (r : Option Part) → i < length others
      → IsLeastFrom (has (get_or others i d)) t r → is_claim_of t r ≡ true → IsLeastFrom (some_holds has others) t r
  at_once others i d None l p same = absurd (true≢false (sym same))
  at_once others i d (Some u) l p same =
      let is : t ≡ u = eq_same exact_parts t u same in
      record {
        there = (p.there.0, any_in others (get_or others i d) u (in_at others i d l) p.there.1);
        least = λ v x. subst (λ (w : Part). is_from w v ≡ true) is x.0;
      }

-- ---- places

less_from : (o : Ordering) → is_lt o ≡ true → o ≡ Less
less_from Less e = refl
less_from Equal e = absurd cc
less_from Greater e = absurd cc

-- what is not below a part after a place is after it too
after_le : (place : Option Part) (t u : Part) → is_after place t ≡ true → is_from t u ≡ true
    → is_after place u ≡ true
after_le None t u a l = refl
after_le (Some p) t u a l =
    ap is_lt (lt_le_trans exact_parts p t u (less_from (part_cmp p t) a) l)

-- what is after a part that is not below one after a place
after_then : (place : Option Part) (t u v : Part) → is_after place t ≡ true → is_from t u ≡ true
    → is_after (Some u) v ≡ true → is_after place v ≡ true
after_then place t u v a l b =
    after_le place t v a
    (lt_le exact_parts t v (le_lt_trans exact_parts t u v l (less_from (part_cmp u v) b)))

not_after : (t u : Part) → is_from t u ≡ true → is_after (Some u) t ≡ false
not_after t u l = elim (le_split exact_parts t u l) [
  | inl less ↦ ap is_lt (less_back exact_parts.total t u less)
  | inr same ↦
      subst (λ (v : Part). is_after (Some v) t ≡ false) same (ap is_lt (exact_parts.itself t))
]

-- ---- fewer pass a test that is stronger, and that one doesn't pass

no_more : (p q : Part → Bool) (xs : List Part) → ((x : Part) → q x ≡ true → p x ≡ true)
    → length (filter q xs) ≤ length (filter p xs)
no_more p q [] h = omega arith
no_more p q (x ∷ xs) h = go (no_more p q xs h) (q x) (p x) (h x) where
  go : length (filter q xs) ≤ length (filter p xs) → (b c : Bool) → (b ≡ true → c ≡ true)
      → length (cond b (x ∷ filter q xs) (filter q xs)) ≤ length (cond c (x ∷ filter p xs) (filter p xs))
  go l true true k = omega (arith, l)
  go l true false k = absurd (true≢false (sym (k refl)))
  go l false true k = omega (arith, l)
  go l false false k = l

fewer : (p q : Part → Bool) (xs : List Part) (w : Part) → ((x : Part) → q x ≡ true → p x ≡ true) → In w xs
    → p w ≡ true → q w ≡ false → length (filter q xs) < length (filter p xs)
fewer p q [] w h i pass off = absurd i
fewer p q (x ∷ xs) w h (inl same) pass off =
    go (no_more p q xs h) (q x) (p x) (ap q (sym same) ∙ off) (ap p (sym same) ∙ pass) where
      go : length (filter q xs) ≤ length (filter p xs) → (b c : Bool) → b ≡ false → c ≡ true
          → length (cond b (x ∷ filter q xs) (filter q xs)) < length (cond c (x ∷ filter p xs) (filter p xs))
      go l true c e f = absurd (true≢false e)
      go l false true e f = omega (arith, l)
      go l false false e f = absurd (true≢false (sym f))
fewer p q (x ∷ xs) w h (inr i) pass off = go (fewer p q xs w h i pass off) (q x) (p x) (h x) where
  go : length (filter q xs) < length (filter p xs) → (b c : Bool) → (b ≡ true → c ≡ true)
      → length (cond b (x ∷ filter q xs) (filter q xs)) < length (cond c (x ∷ filter p xs) (filter p xs))
  go l true true k = omega (arith, l)
  go l true false k = absurd (true≢false (sym (k refl)))
  go l false true k = omega (arith, l)
  go l false false k = l

-- ---- the search

module _ (p : PlanState) (test : Part → Bool) (after : Option Part) where
  -- a part that is looked for
  pub record IsSought (t : Part) : Type 0 where
    pub unclaimed : is_unclaimed p t ≡ true
    pub later : is_after after t ≡ true
    pub held : test t ≡ true

  -- the list of these
  abbrev pub sought : List Part
  sought = filter test (filter (is_after after) (unclaimed p))

  in_unclaimed : (t : Part) → is_unclaimed p t ≡ true → In t (unclaimed p)
  in_unclaimed t h = in_contains exact_parts (unclaimed p) t (contains-unclaimed p t ∙ h)

  from_unclaimed : (t : Part) → In t (unclaimed p) → is_unclaimed p t ≡ true
  from_unclaimed t i = sym (contains-unclaimed p t) ∙ contains_in exact_parts (unclaimed p) t i

  pub sought_first : (r : Option Part) → IsFirstBy part_cmp (λ u. u) IsSought r → r ≡ first sought
  sought_first r h =
      one_least IsSought r (first sought) h
      (first_same exact_parts (λ u. u) (PassesIn test (filter (is_after after) (unclaimed p))) IsSought
      (λ u i.
      let j = in_filtered (is_after after) (unclaimed p) u i.0 in
      record { unclaimed = from_unclaimed u j.0; later = j.1; held = i.1 })
      (λ u s. (in_filter (is_after after) (unclaimed p) u (in_unclaimed u s.unclaimed) s.later, s.held))
      (first sought)
      (least_first test (filter (is_after after) (unclaimed p))
      (rises_filter exact_parts.total (is_after after) (unclaimed p) (unclaimed_rises p))))

  -- all that is looked for is after a place, and what is after it is after the first place
  pub record IsPassed (passed : Option Part) : Type 0 where
    pub kept : (t : Part) → IsSought t → is_after passed t ≡ true
    pub back : (t : Part) → is_after passed t ≡ true → is_after after t ≡ true

  pub passed_none : IsPassed after
  passed_none = record { kept = λ t s. s.later; back = λ t h. h }

  module _ (passed : Option Part) (i : IsPassed passed) where
    next_least : (o : Option Part) → o ≡ first (filter (is_after passed) (unclaimed p))
        → IsFirstBy part_cmp (λ u. u) (PassesIn (is_after passed) (unclaimed p)) o
    next_least o e =
        subst (IsFirstBy part_cmp (λ u. u) (PassesIn (is_after passed) (unclaimed p))) (sym e)
        (least_first (is_after passed) (unclaimed p) (unclaimed_rises p))

    -- no part is wanted any more
    pub none_wanted : None ≡ first (filter (is_after passed) (unclaimed p)) → None ≡ first sought
    none_wanted e =
        sought_first None (λ t s. next_least None e t (in_unclaimed t s.unclaimed, i.kept t s))

    module _ (w : Part) (e : Some w ≡ first (filter (is_after passed) (unclaimed p))) where
      wanted_from : (t : Part) → IsSought t → is_from w t ≡ true
      wanted_from t s = (next_least (Some w) e).least t (in_unclaimed t s.unclaimed, i.kept t s)

      wanted_after : is_after passed w ≡ true
      wanted_after = (next_least (Some w) e).there.1

      -- none of the others holds one from there on
      pub none_held : IsLeastFrom test w None → None ≡ first sought
      none_held h = sought_first None (λ t s. h t (wanted_from t s, s.held))

      module _ (u : Part) (h : IsLeastFrom test w (Some u)) where
        pub found : is_unclaimed p u ≡ true → Some u ≡ first sought
        found open_yet = sought_first (Some u) (record {
          there = record {
            unclaimed = open_yet;
            later = i.back u (after_le passed w u wanted_after h.there.0);
            held = h.there.1;
          };
          least = λ t s. h.least t (wanted_from t s, s.held);
        })

        pub leapt : is_unclaimed p u ≡ false → IsPassed (Some u)
        leapt off = record {
          kept = λ t s. elim (le_split exact_parts u t (h.least t (wanted_from t s, s.held))) [
            | inl less ↦ ap is_lt less
            | inr same ↦ absurd (true≢false (sym s.unclaimed ∙ ap (is_unclaimed p) (sym same) ∙ off))
          ];
          back = λ t a. i.back t (after_then passed w u t wanted_after h.there.0 a);
        }

        pub shorter :
            length (filter (is_after (Some u)) (unclaimed p)) < length (filter (is_after passed) (unclaimed p))
        shorter =
            fewer (is_after passed) (is_after (Some u)) (unclaimed p) w
            (λ t a. after_then passed w u t wanted_after h.there.0 a) (next_least (Some w) e).there.0 wanted_after
            (not_after w u h.there.0)

-- ---- the list

commute : (held : Part → Bool) (after : Option Part) (xs : List Part)
    → filter held (filter (is_after after) xs) ≡ filter (is_after after) (filter held xs)
commute held after xs = both_tests held (is_after after) xs ∙ sym (filter-filter (is_after after) held xs)

pub sought_next : (p : PlanState) (held : Part → Bool) (last : Option Part) (t : Part)
    → Some t ≡ first (sought p held last) → sought p held last ≡ t ∷ sought p held (Some t)
sought_next p held last t e =
    commute held last (unclaimed p)
    ∙ after_first last (filter held (unclaimed p)) t
    (rises_filter exact_parts.total held (unclaimed p) (unclaimed_rises p))
    (ap first (sym (commute held last (unclaimed p))) ∙ sym e)
    ∙ ap (λ (ts : List Part). t ∷ ts) (sym (commute held (Some t) (unclaimed p)))
