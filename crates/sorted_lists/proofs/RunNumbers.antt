-- The numbers of runs one by one: which they are, their order, and where each run ends.
use Rattle.std.proofs.Common.{◌≡◌, inl, inr, ℕ, zero, suc, ◌+◌, ◌-◌, ◌≤◌, ◌<◌, true, not, ◌&&◌, ◌||◌, List, [], ◌∷◌}
use Rattle.std.proofs.Common.{map, length, sym, ap, ◌∙◌, subst, arith, refl}
use Rattle.std.specs.Cmp.{IsTotalOrder, both_ways}
use Rattle.std.specs.Ordering.{nat_cmp, is_le}
use Rattle.std.specs.declared.cmp.Ordering.{Ordering}
use Rattle.std.specs.declared.cmp.Ordering.TheVariants.{Less, Greater}
use Rattle.std.proofs.lemmas.Bool.{true≢false, and_parts, and_from}
use Rattle.std.proofs.lemmas.Cmp.{tied_itself}
use Rattle.sorted_lists.specs.SortedList.{IsExact, keys, Rises, contains}
use Rattle.sorted_lists.specs.Range.{numbers_from}
use Rattle.sorted_lists.specs.Runs.{Number, Run, next, number_cmp, AreRuns, AreOfOne, has, is_within, run_numbers}
use Rattle.sorted_lists.specs.Runs.{numbers_of, lasts}
use Rattle.sorted_lists.proofs.Orders.{Exact, then_second, nat_less}
use Rattle.sorted_lists.proofs.Sets.{In, in_map, from_map, in_contains, contains_in, contains_append, rises_append}
use Rattle.sorted_lists.proofs.Sets.{before_each, each_before}
use Rattle.sorted_lists.proofs.Ranges.{from_numbers, in_numbers}
use Rattle.sorted_lists.proofs.RunOrder.{has_in, has_from, IsIn, le_split, lt_le, le_itself, lt_trans}
use Rattle.sorted_lists.proofs.RunOrder.{lt_le_trans, le_lt_trans}
use Rattle.sorted_lists.proofs.RunLists.{Follows, not_empty, gap_after}
use Rattle.sorted_lists.proofs.Numbers.{exact_numbers, follow, thing_le, squeezed, size_le, le_size}

module _ {P : Type 0} {R : P → P → Ordering} (o : IsTotalOrder R) (exact : IsExact R) where
  abbrev all_exact : Exact (number_cmp R)
  all_exact = exact_numbers o exact

  -- ---- one run

  record IsNumberOf (run : Run P) (q : Number P) : Type 0 where
    pub thing : q.0 ≡ run.0.0
    pub from : run.0.1 ≤ q.1
    pub to : q.1 ≤ run.1.1

  from_range : (thing : P) (first n : ℕ) (q : Number P) → In q (map (λ m. (thing, m)) (numbers_from first n))
      → (q.0 ≡ thing) × (first ≤ q.1) × (q.1 < first + n)
  from_range thing first n q i =
      let r : (m : ℕ) × (In m (numbers_from first n)) × (q ≡ (thing, m)) =
      from_map (λ (m : ℕ). let k : Number P = (thing, m) in k) (numbers_from first n) q i in
      let b : (first ≤ r.0) × (r.0 < first + n) = from_numbers first n r.0 r.1 in
      let e : q.1 ≡ r.0 = ap (λ (k : Number P). k.1) r.2 in
      (ap (λ (k : Number P). k.0) r.2, omega (arith, e, b.0), omega (arith, e, b.1))

  from_run : (run : Run P) (q : Number P) → In q (run_numbers run) → IsNumberOf run q
  from_run run q i =
      let b : (q.0 ≡ run.0.0) × (run.0.1 ≤ q.1) × (q.1 < run.0.1 + (run.1.1 + 1 - run.0.1)) =
      from_range run.0.0 run.0.1 (run.1.1 + 1 - run.0.1) q i in
      record { thing = b.0; from = b.1; to = omega (arith, b.1, b.2) }

  in_run : (run : Run P) (q : Number P) → IsNumberOf run q → In q (run_numbers run)
  in_run run q p =
      subst (λ (t : P). In q (map (λ (m : ℕ). (t, m)) (numbers_from run.0.1 (run.1.1 + 1 - run.0.1)))) p.thing
      (in_map (λ (m : ℕ). (q.0, m)) (numbers_from run.0.1 (run.1.1 + 1 - run.0.1)) q.1
      (in_numbers run.0.1 (run.1.1 + 1 - run.0.1) q.1 p.from (omega (arith, p.from, p.to))))

  run_has : (run : Run P) (q : Number P) → run.0.0 ≡ run.1.0
      → contains (number_cmp R) (run_numbers run) q ≡ is_within (number_cmp R) q run
  run_has run q one =
      both_ways (contains (number_cmp R) (run_numbers run) q) (is_within (number_cmp R) q run) there back where
        there : contains (number_cmp R) (run_numbers run) q ≡ true → is_within (number_cmp R) q run ≡ true
        there h =
            let p : IsNumberOf run q = from_run run q (in_contains all_exact (run_numbers run) q h) in
            let above : is_le (number_cmp R run.0 q) ≡ true =
            subst (λ (t : P). is_le (number_cmp R run.0 (t, q.1)) ≡ true) (sym p.thing)
            (size_le o exact run.0.0 run.0.1 q.1 p.from) in
            let within : is_le (number_cmp R q run.1) ≡ true =
            subst (λ (t : P). is_le (number_cmp R (t, q.1) run.1) ≡ true) (sym (p.thing ∙ one))
            (size_le o exact run.1.0 q.1 run.1.1 p.to) in
            and_from (is_le (number_cmp R run.0 q)) (is_le (number_cmp R q run.1)) above within

        back : is_within (number_cmp R) q run ≡ true → contains (number_cmp R) (run_numbers run) q ≡ true
        back h =
            let b : (is_le (number_cmp R run.0 q) ≡ true) × (is_le (number_cmp R q run.1) ≡ true) =
            and_parts (is_le (number_cmp R run.0 q)) (is_le (number_cmp R q run.1)) h in
            let same : run.0.0 ≡ q.0 =
            squeezed o exact run.0.0 q.0 (thing_le o exact run.0 q b.0)
            (subst (λ (t : P). R q.0 t ≡ Greater → ⊥) (sym one) (thing_le o exact q run.1 b.1)) in
            contains_in all_exact (run_numbers run) q (in_run run q (record {
              thing = sym same;
              from =
                  le_size o exact run.0.0 run.0.1 q.1
                  (subst (λ (t : P). is_le (number_cmp R run.0 (t, q.1)) ≡ true) (sym same) b.0);
              to =
                  le_size o exact run.1.0 q.1 run.1.1
                  (subst (λ (t : P). is_le (number_cmp R (t, q.1) run.1) ≡ true) (sym same ∙ one) b.1);
            }))

  range_rises : (thing : P) (first n : ℕ) → Rises (number_cmp R) (map (λ m. (thing, m)) (numbers_from first n))
  range_rises thing first zero = tt
  range_rises thing first (suc n) = (
    before_each all_exact.total (thing, first) (map (λ m. (thing, m)) (numbers_from (first + 1) n)) (λ y i.
        let b : (y.0 ≡ thing) × (first + 1 ≤ y.1) × (y.1 < first + 1 + n) = from_range thing (first + 1) n y i in
        then_second (R thing y.0) (nat_cmp first y.1) (ap (R thing) b.0 ∙ tied_itself o thing)
        ∙ nat_less first y.1 (omega (arith, b.1))),
    range_rises thing (first + 1) n,
  )

  -- ---- the runs of a set

  pub numbers_have : (runs : List (Run P)) → AreOfOne R runs → (q : Number P)
      → contains (number_cmp R) (numbers_of runs) q ≡ has (number_cmp R) runs q
  numbers_have [] b q = refl
  numbers_have (x ∷ xs) b q =
      contains_append (number_cmp R) (run_numbers x) (numbers_of xs) q
      ∙ (λ i. run_has x q b.0 i || numbers_have xs b.1 q i)

  pub numbers_rise : (runs : List (Run P)) → AreRuns (number_cmp R) next runs → AreOfOne R runs
      → Rises (number_cmp R) (numbers_of runs)
  numbers_rise [] a b = tt
  numbers_rise (x ∷ xs) a b =
      rises_append all_exact.total (run_numbers x) (numbers_of xs)
      (range_rises x.0.0 x.0.1 (x.1.1 + 1 - x.0.1)) (numbers_rise xs a.2 b.1) less where
        less : (q y : Number P) → In q (run_numbers x) → In y (numbers_of xs) → number_cmp R q y ≡ Less
        less q y i j =
            let f : Follows (number_cmp R) next = follow o exact in
            let m : IsIn all_exact xs y =
            has_from all_exact xs y (sym (numbers_have xs b.1 y) ∙ contains_in all_exact (numbers_of xs) y j) in
            let p : (is_le (number_cmp R x.0 q) ≡ true) × (is_le (number_cmp R q x.1) ≡ true) =
            and_parts (is_le (number_cmp R x.0 q)) (is_le (number_cmp R q x.1))
            (sym (run_has x q b.0) ∙ contains_in all_exact (run_numbers x) q i) in
            let after : number_cmp R (next x.1) m.run.0 ≡ Less =
            each_before all_exact.total (next x.1) (keys xs) a.1 m.run.0
            (in_map (λ (z : Run P). z.0) xs m.run m.is_in) in
            le_lt_trans all_exact q x.1 y p.1
            (lt_trans all_exact x.1 (next x.1) y (f.up x.1)
            (lt_le_trans all_exact (next x.1) m.run.0 y after m.above))

  -- ---- where runs end

  pub lasts_rise : (runs : List (Run P)) → AreRuns (number_cmp R) next runs → Rises (number_cmp R) (lasts runs)
  lasts_rise [] a = tt
  lasts_rise (x ∷ xs) a = (
    before_each all_exact.total x.1 (lasts xs) (λ y i.
        let f : Follows (number_cmp R) next = follow o exact in
        let r : (s : Run P) × (In s xs) × (y ≡ s.1) = from_map (λ (z : Run P). z.1) xs y i in
        let after : number_cmp R (next x.1) r.0.0 ≡ Less =
        each_before all_exact.total (next x.1) (keys xs) a.1 r.0.0 (in_map (λ (z : Run P). z.0) xs r.0 r.1) in
        subst (λ (w : Number P). number_cmp R x.1 w ≡ Less) (sym r.2)
        (lt_trans all_exact x.1 (next x.1) r.0.1 (f.up x.1)
        (lt_le_trans all_exact (next x.1) r.0.0 r.0.1 after (not_empty f xs a.2 r.0 r.1)))),
    lasts_rise xs a.2,
  )

  pub lasts_has : (runs : List (Run P)) → AreRuns (number_cmp R) next runs → (q : Number P)
      → contains (number_cmp R) (lasts runs) q ≡ (has (number_cmp R) runs q && not (has (number_cmp R) runs (next q)))
  lasts_has runs a q =
      both_ways (contains (number_cmp R) (lasts runs) q)
      (has (number_cmp R) runs q && not (has (number_cmp R) runs (next q))) there back where
        f : Follows (number_cmp R) next
        f = follow o exact

        there : contains (number_cmp R) (lasts runs) q ≡ true
            → (has (number_cmp R) runs q && not (has (number_cmp R) runs (next q))) ≡ true
        there h =
            let r : (s : Run P) × (In s runs) × (q ≡ s.1) =
            from_map (λ (z : Run P). z.1) runs q (in_contains all_exact (lasts runs) q h) in
            subst
            (λ (w : Number P). (has (number_cmp R) runs w && not (has (number_cmp R) runs (next w))) ≡ true)
            (sym r.2)
            (and_from (has (number_cmp R) runs r.0.1) (not (has (number_cmp R) runs (next r.0.1)))
            (has_in all_exact runs r.0.1 r.0 r.1 (not_empty f runs a r.0 r.1) (le_itself all_exact r.0.1))
            (ap not (gap_after f runs a q r.0 r.1)))

        back : (has (number_cmp R) runs q && not (has (number_cmp R) runs (next q))) ≡ true
            → contains (number_cmp R) (lasts runs) q ≡ true
        back h =
            let b : (has (number_cmp R) runs q ≡ true) × (not (has (number_cmp R) runs (next q)) ≡ true) =
            and_parts (has (number_cmp R) runs q) (not (has (number_cmp R) runs (next q))) h in
            go b.1 (has_from all_exact runs q b.0) where
              go : not (has (number_cmp R) runs (next q)) ≡ true → IsIn all_exact runs q
                  → contains (number_cmp R) (lasts runs) q ≡ true
              go n m = elim (le_split all_exact q m.run.1 m.within) [
                | inl l ↦
                    absurd
                    (true≢false (sym n
                    ∙ ap not (has_in all_exact runs (next q) m.run m.is_in
                    (lt_le all_exact m.run.0 (next q) (le_lt_trans all_exact m.run.0 q (next q) m.above (f.up q)))
                    (f.step q m.run.1 l))))
                | inr s ↦
                    contains_in all_exact (lasts runs) q
                    (subst (λ (w : Number P). In w (lasts runs)) (sym s)
                    (in_map (λ (z : Run P). z.1) runs m.run m.is_in))
              ]

pub length-lasts : {P : Type 0} (runs : List (Run P)) → length (lasts runs) ≡ length runs
length-lasts [] = refl
length-lasts (x ∷ xs) = ap suc (length-lasts xs)
