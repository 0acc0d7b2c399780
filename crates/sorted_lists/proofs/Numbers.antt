-- Numbers of things follow one another.
use Rattle.std.proofs.Common.{◌≡◌, ℕ, ◌+◌, ◌<◌, ◌≤◌, Bool, true, false, cond, ◌||◌, List, [], ◌∷◌, Option, Some}
use Rattle.std.proofs.Common.{None, length, refl, sym, ap, ◌∙◌, subst, arith, inl, inr}
use Rattle.std.proofs.lemmas.Bool.{true≢false, false_from_ne_true}
use Rattle.std.specs.Cmp.{IsTotalOrder, both_ways}
use Rattle.std.specs.Ordering.{nat_cmp, ordering_then, is_eq, is_le, eq_by_cmp}
use Rattle.std.specs.declared.cmp.Ordering.{Ordering}
use Rattle.std.specs.declared.cmp.Ordering.TheVariants.{Less, Equal, Greater}
use Rattle.std.proofs.lemmas.Cmp.{nat_cmp_total, on_total, then_total, tied_itself}
use Rattle.std.proofs.lemmas.Bool.Decides.{nat_tests}
use Rattle.std.proofs.lemmas.Map.Keys.{le_from_is_le}
use Rattle.sorted_lists.specs.SortedList.{IsExact, by_order, keys, Rises, value_of, with_value, without_key}
use Rattle.sorted_lists.specs.SortedList.{last_up_to}
use Rattle.sorted_lists.specs.SortedList.{first_from}
use Rattle.sorted_lists.specs.Runs.{Number, Run, next, number_cmp, AreRuns, AreOfOne, IsRuns, has, start_at, end_at}
use Rattle.sorted_lists.proofs.Sets.{In, eq_same, eq_itself}
use Rattle.sorted_lists.proofs.RunOrder.{IsLast, last_is, IsFirst, first_is, none_from_on, has_in, IsIn, has_from}
use Rattle.sorted_lists.proofs.RunOrder.{le_trans, lt_not_le, in_without, without_in, after_head}
use Rattle.sorted_lists.proofs.MapChanges.{length-without, rises_without}
use Rattle.sorted_lists.proofs.Orders.{Exact, less_back, nat_same, nat_itself, then_second, nat_less}
use Rattle.sorted_lists.proofs.RunLists.{Follows, runs_rise, are_runs, not_empty, apart, gap_after, Start, End}
use Rattle.sorted_lists.proofs.RunLists.{start_found, end_found, longer_runs, longer_has}
use Rattle.sorted_lists.proofs.TwoOrders.{nat_le}

nat_step : (m n : ℕ) → nat_cmp m n ≡ Less → is_le (nat_cmp (m + 1) n) ≡ true
nat_step m n h = grind (arith, nat_tests)

module _ {P : Type 0} {R : P → P → Ordering} (o : IsTotalOrder R) (exact : IsExact R) where
  same_number : (a b : Number P) → number_cmp R a b ≡ Equal → a ≡ b
  same_number a b h = go (R a.0 b.0) refl h where
    go : (c : Ordering) → R a.0 b.0 ≡ c → ordering_then c (nat_cmp a.1 b.1) ≡ Equal → a ≡ b
    go Less p g = absurd cc
    go Equal p g = let s : a.0 ≡ b.0 = exact a.0 b.0 p in let t : a.1 ≡ b.1 = nat_same a.1 b.1 g in λ i. (s i, t i)
    go Greater p g = absurd cc

  pub exact_numbers : Exact (number_cmp R)
  exact_numbers = record {
    total = then_total (on_total (λ (q : Number P). q.0) o) (on_total (λ (q : Number P). q.1) nat_cmp_total);
    same = same_number;
    itself = λ a. then_second (R a.0 a.0) (nat_cmp a.1 a.1) (tied_itself o a.0) ∙ nat_itself a.1;
  }

  up_number : (a : Number P) → number_cmp R a (next a) ≡ Less
  up_number a =
      then_second (R a.0 a.0) (nat_cmp a.1 (a.1 + 1)) (tied_itself o a.0) ∙ nat_less a.1 (a.1 + 1) (omega arith)

  step_number : (a b : Number P) → number_cmp R a b ≡ Less → is_le (number_cmp R (next a) b) ≡ true
  step_number a b h = go (R a.0 b.0) h where
    go : (c : Ordering) → ordering_then c (nat_cmp a.1 b.1) ≡ Less
        → is_le (ordering_then c (nat_cmp (a.1 + 1) b.1)) ≡ true
    go Less g = refl
    go Equal g = nat_step a.1 b.1 g
    go Greater g = absurd cc

  pub follow : Follows (number_cmp R) next
  follow = record { exact = exact_numbers; up = up_number; step = step_number }

  -- ---- runs of one thing each

  pub one_with : (s t : Number P) (es : List (Run P)) → s.0 ≡ t.0 → AreOfOne R es
      → AreOfOne R (with_value (number_cmp R) s t es)
  one_with s t [] e b = (e, tt)
  one_with s t (x ∷ xs) e b = go (one_with s t xs e b.1) (number_cmp R s x.0) where
    go : AreOfOne R (with_value (number_cmp R) s t xs) → (c : Ordering)
        → AreOfOne R (by_order c ((s, t) ∷ x ∷ xs) ((s, t) ∷ xs) (x ∷ with_value (number_cmp R) s t xs))
    go h Less = (e, b)
    go h Equal = (e, b.1)
    go h Greater = (b.0, h)

  pub one_without : (k : Number P) (es : List (Run P)) → AreOfOne R es → AreOfOne R (without_key (number_cmp R) k es)
  one_without k [] b = tt
  one_without k (x ∷ xs) b = go (one_without k xs b.1) (number_cmp R k x.0) where
    go : AreOfOne R (without_key (number_cmp R) k xs) → (c : Ordering)
        → AreOfOne R (by_order c (x ∷ xs) xs (x ∷ without_key (number_cmp R) k xs))
    go h Less = b
    go h Equal = b.1
    go h Greater = (b.0, h)

  pub in_one : (xs : List (Run P)) → AreOfOne R xs → (r : Run P) → In r xs → r.0.0 ≡ r.1.0
  in_one [] b r i = absurd i
  in_one (x ∷ xs) b r (inl s) = subst (λ (w : Run P). w.0.0 ≡ w.1.0) (sym s) b.0
  in_one (x ∷ xs) b r (inr i) = in_one xs b.1 r i

  pub start_one : (es : List (Run P)) → AreRuns (number_cmp R) next es → AreOfOne R es
      → (q : Number P) (found : Option (Run P)) → last_up_to (number_cmp R) q es ≡ found
      → (start_at (number_cmp R) next found q).0 ≡ q.0
  start_one es a b q None h = refl
  start_one es a b q (Some y) h = go (eq_by_cmp (number_cmp R) (next y.1) q) refl where
    go : (c : Bool) → eq_by_cmp (number_cmp R) (next y.1) q ≡ c → (cond c y.0 q).0 ≡ q.0
    go true p =
        in_one es b y (last_is exact_numbers q es (runs_rise follow es a) y h).is_in
        ∙ ap (λ (w : Number P). w.0) (eq_same exact_numbers (next y.1) q p)
    go false p = refl

  pub end_one : (es : List (Run P)) → AreRuns (number_cmp R) next es → AreOfOne R es
      → (q : Number P) (found : Option (Run P)) → first_from (number_cmp R) q es ≡ found
      → (end_at (number_cmp R) next found q).0 ≡ q.0
  end_one es a b q None h = refl
  end_one es a b q (Some y) h = go (eq_by_cmp (number_cmp R) (next q) y.0) refl where
    go : (c : Bool) → eq_by_cmp (number_cmp R) (next q) y.0 ≡ c → (cond c y.1 q).0 ≡ q.0
    go true p =
        sym (in_one es b y (first_is exact_numbers q es (runs_rise follow es a) y h).is_in)
        ∙ sym (ap (λ (w : Number P). w.0) (eq_same exact_numbers (next q) y.0 p))
    go false p = refl

  -- ---- one more number

  module _ (es : List (Run P)) (set : IsRuns R es) (q : Number P) (lacks : has (number_cmp R) es q ≡ false) where
    -- where its run begins and ends
    abbrev pub start_of : Number P
    start_of = start_at (number_cmp R) next (last_up_to (number_cmp R) q es) q

    abbrev pub end_of : Number P
    end_of = end_at (number_cmp R) next (first_from (number_cmp R) q es) q

    -- the runs with it
    abbrev pub runs_with : List (Run P)
    runs_with = with_value (number_cmp R) start_of end_of (without_key (number_cmp R) (next q) es)

    begins : Start follow es q start_of
    begins = start_found follow es set.runs q lacks (last_up_to (number_cmp R) q es) refl

    ends : End follow es q end_of
    ends = end_found follow es set.runs q lacks (first_from (number_cmp R) q es) refl

    pub set_with : IsRuns R runs_with
    set_with = record {
      runs = longer_runs follow es set.runs q lacks start_of end_of begins ends;
      one =
          one_with start_of end_of (without_key (number_cmp R) (next q) es)
          (start_one es set.runs set.one q (last_up_to (number_cmp R) q es) refl
          ∙ sym (end_one es set.runs set.one q (first_from (number_cmp R) q es) refl))
          (one_without (next q) es set.one);
    }

    pub has_with : (x : Number P)
        → has (number_cmp R) runs_with x ≡ (eq_by_cmp (number_cmp R) x q || has (number_cmp R) es x)
    has_with x = longer_has follow es set.runs q lacks start_of end_of begins ends x

  -- ---- where a run ends

  pub thing_le : (a b : Number P) → is_le (number_cmp R a b) ≡ true → (R a.0 b.0 ≡ Greater → ⊥)
  thing_le a b h g = true≢false (sym h ∙ ap (λ c. is_le (ordering_then c (nat_cmp a.1 b.1))) g)

  pub squeezed : (a b : P) → (R a b ≡ Greater → ⊥) → (R b a ≡ Greater → ⊥) → a ≡ b
  squeezed a b n m = go (R a b) refl where
    go : (c : Ordering) → R a b ≡ c → a ≡ b
    go Less p = absurd (m (less_back o a b p))
    go Equal p = exact a b p
    go Greater p = absurd (n p)

  pub size_le : (p : P) (m n : ℕ) → m ≤ n → is_le (number_cmp R (p, m) (p, n)) ≡ true
  size_le p m n h = ap is_le (then_second (R p p) (nat_cmp m n) (tied_itself o p)) ∙ nat_le m n h

  pub le_size : (p : P) (m n : ℕ) → is_le (number_cmp R (p, m) (p, n)) ≡ true → m ≤ n
  le_size p m n h = le_from_is_le m n (sym (ap is_le (then_second (R p p) (nat_cmp m n) (tied_itself o p))) ∙ h)

  pub record IsGap (es : List (Run P)) (q : Number P) (n : ℕ) : Type 0 where
    pub from : q.1 ≤ n
    pub gap : has (number_cmp R) es (q.0, n) ≡ false
    pub before : (m : ℕ) → q.1 ≤ m → m < n → has (number_cmp R) es (q.0, m) ≡ true

  pub gap_of : (es : List (Run P)) → AreRuns (number_cmp R) next es → AreOfOne R es → (q : Number P) (y : Run P)
      → last_up_to (number_cmp R) q es ≡ Some y → is_le (number_cmp R q y.1) ≡ true → IsGap es q (y.1.1 + 1)
  gap_of es a b q y h le =
      let l : IsLast exact_numbers q es y = last_is exact_numbers q es (runs_rise follow es a) y h in
      let one : y.0.0 ≡ y.1.0 = in_one es b y l.is_in in
      let same : q.0 ≡ y.1.0 =
      sym (squeezed y.1.0 q.0 (subst (λ (p : P). R p q.0 ≡ Greater → ⊥) one (thing_le y.0 q l.within))
      (thing_le q y.1 le)) in
      let size : q.1 ≤ y.1.1 =
      le_size y.1.0 q.1 y.1.1 (subst (λ (p : P). is_le (number_cmp R (p, q.1) y.1) ≡ true) same le) in
      record {
        from = omega (arith, size);
        gap =
            subst (λ (p : P). has (number_cmp R) es (p, y.1.1 + 1) ≡ false) (sym same)
            (gap_after follow es a q y l.is_in);
        before = λ m c d. has_in exact_numbers es (q.0, m) y l.is_in
            (le_trans exact_numbers y.0 q (q.0, m) l.within (size_le q.0 q.1 m c))
            (subst (λ (p : P). is_le (number_cmp R (p, m) y.1) ≡ true) (sym same)
            (size_le y.1.0 m y.1.1 (omega (arith, d))));
      }

  -- ---- all numbers of one thing go

  module _ (es : List (Run P)) (a : AreRuns (number_cmp R) next es) (b : AreOfOne R es) where
    -- a number in a run is of the run's thing
    pub within_thing : (r : Run P) (q : Number P) → In r es → is_le (number_cmp R r.0 q) ≡ true
        → is_le (number_cmp R q r.1) ≡ true → r.0.0 ≡ q.0
    within_thing r q i l u =
        squeezed r.0.0 q.0 (thing_le r.0 q l)
        (subst (λ (p : P). R q.0 p ≡ Greater → ⊥) (sym (in_one es b r i)) (thing_le q r.1 u))

    value_in : (xs : List (Run P)) → Rises (number_cmp R) (keys xs) → (y : Run P) → In y xs
        → value_of (number_cmp R) xs y.0 ≡ Some y.1
    value_in [] u y i = absurd i
    value_in (x ∷ xs) u y (inl s) =
        ap (λ (c : Bool). cond c (Some x.1) (value_of (number_cmp R) xs y.0))
        (subst (λ (w : Run P). eq_by_cmp (number_cmp R) y.0 w.0 ≡ true) s (eq_itself exact_numbers y.0))
        ∙ ap (λ (w : Run P). let o : Option (Number P) = Some w.1 in o) (sym s)
    value_in (x ∷ xs) u y (inr i) =
        ap (λ c. cond (is_eq c) (Some x.1) (value_of (number_cmp R) xs y.0))
        (less_back exact_numbers.total x.0 y.0 (after_head exact_numbers x xs u y i))
        ∙ value_in xs u.1 y i

    pub shorter : (y : Run P) → In y es → length (without_key (number_cmp R) y.0 es) < length es
    shorter y i =
        let u : Rises (number_cmp R) (keys es) = runs_rise follow es a in
        omega (arith, length-without exact_numbers.total y.0 y.1 es u (value_in es u y i))

    pub fewer_runs : (y : Run P) → In y es → AreRuns (number_cmp R) next (without_key (number_cmp R) y.0 es)
    fewer_runs y i =
        let u : Rises (number_cmp R) (keys es) = runs_rise follow es a in
        are_runs follow (without_key (number_cmp R) y.0 es) (rises_without exact_numbers.total y.0 es u)
        (λ r j. not_empty follow es a r (in_without exact_numbers y.0 es u r j).0)
        (λ r t j k.
        apart follow es a r t (in_without exact_numbers y.0 es u r j).0 (in_without exact_numbers y.0 es u t k).0)

    pub fewer_has : (y : Run P) → In y es → (q : Number P) → (y.0.0 ≡ q.0 → ⊥)
        → has (number_cmp R) (without_key (number_cmp R) y.0 es) q ≡ has (number_cmp R) es q
    fewer_has y i q n =
        both_ways (has (number_cmp R) (without_key (number_cmp R) y.0 es) q) (has (number_cmp R) es q)
        (λ h. there (has_from exact_numbers (without_key (number_cmp R) y.0 es) q h))
        (λ h. back (has_from exact_numbers es q h)) where
          u : Rises (number_cmp R) (keys es)
          u = runs_rise follow es a

          there : IsIn exact_numbers (without_key (number_cmp R) y.0 es) q → has (number_cmp R) es q ≡ true
          there m = has_in exact_numbers es q m.run (in_without exact_numbers y.0 es u m.run m.is_in).0 m.above m.within

          back : IsIn exact_numbers es q → has (number_cmp R) (without_key (number_cmp R) y.0 es) q ≡ true
          back m =
              has_in exact_numbers (without_key (number_cmp R) y.0 es) q m.run
              (without_in exact_numbers y.0 es m.run m.is_in
              (λ s. n (ap (λ (w : Number P). w.0) (sym s) ∙ within_thing m.run q m.is_in m.above m.within))) m.above
              m.within

    -- nothing stands from the thing's number 0 on, or only another thing's
    pub none_left : (p : P) → first_from (number_cmp R) (p, 0) es ≡ None → (q : Number P) → p ≡ q.0
        → has (number_cmp R) es q ≡ false
    none_left p h q s = false_from_ne_true (has (number_cmp R) es q) (λ g. go (has_from exact_numbers es q g)) where
      go : IsIn exact_numbers es q → ⊥
      go m =
          let before : number_cmp R m.run.0 (p, 0) ≡ Less = none_from_on exact_numbers (p, 0) es h m.run m.is_in in
          let same : m.run.0.0 ≡ p = within_thing m.run q m.is_in m.above m.within ∙ sym s in
          lt_not_le exact_numbers m.run.0 (p, 0) before
          (subst (λ (w : P). is_le (number_cmp R (w, 0) m.run.0) ≡ true) same
          (size_le m.run.0.0 0 m.run.0.1 (omega arith)))

    pub others_left : (p : P) (y : Run P) → first_from (number_cmp R) (p, 0) es ≡ Some y → (p ≡ y.0.0 → ⊥)
        → (q : Number P) → p ≡ q.0 → has (number_cmp R) es q ≡ false
    others_left p y h n q s =
        false_from_ne_true (has (number_cmp R) es q) (λ g. go (has_from exact_numbers es q g)) where
          go : IsIn exact_numbers es q → ⊥
          go m =
              let l : IsFirst exact_numbers (p, 0) es y =
              first_is exact_numbers (p, 0) es (runs_rise follow es a) y h in
              let same : m.run.0.0 ≡ p = within_thing m.run q m.is_in m.above m.within ∙ sym s in
              elim (l.others m.run m.is_in) [
                | inl before ↦
                    lt_not_le exact_numbers m.run.0 (p, 0) before
                    (subst (λ (w : P). is_le (number_cmp R (w, 0) m.run.0) ≡ true) same
                    (size_le m.run.0.0 0 m.run.0.1 (omega arith)))
                | inr above ↦
                    n (squeezed p y.0.0 (thing_le (p, 0) y.0 l.above)
                    (subst (λ (w : P). R y.0.0 w ≡ Greater → ⊥) same (thing_le y.0 m.run.0 above)))
              ]
