-- The least number of a thing from one on.
use Rattle.std.proofs.Common.{◌≡◌, ℕ, ◌<◌, ◌≤◌, true, false, Some, None, List, sym, ◌∙◌, subst, arith, inl, inr}
use Rattle.std.proofs.lemmas.Bool.{true≢false, false_from_ne_true}
use Rattle.std.specs.Cmp.{IsTotalOrder}
use Rattle.std.specs.Ordering.{is_eq, is_le}
use Rattle.std.specs.declared.cmp.Ordering.{Ordering}
use Rattle.std.specs.declared.cmp.Ordering.TheVariants.{Less, Equal, Greater}
use Rattle.std.proofs.lemmas.Cmp.{tied_itself}
use Rattle.sorted_lists.specs.SortedList.{IsExact, first_from}
use Rattle.sorted_lists.specs.Runs.{Number, Run, number_cmp, IsRuns, has}
use Rattle.sorted_lists.proofs.RunOrder.{IsFirst, first_is, none_from_on, has_in, IsIn, has_from, le_trans, lt_le}
use Rattle.sorted_lists.proofs.RunOrder.{le_itself}
use Rattle.sorted_lists.proofs.RunLists.{runs_rise, not_empty}
use Rattle.sorted_lists.proofs.Numbers.{exact_numbers, follow, size_le, le_size, thing_le, squeezed}

module _ {P : Type 0} {R : P → P → Ordering} (o : IsTotalOrder R) (exact : IsExact R) (es : List (Run P))
    (set : IsRuns R es) (q : Number P) (lacks : has (number_cmp R) es q ≡ false) where
  -- no run that begins before it goes on to there
  not_before : (n : ℕ) → q.1 ≤ n → (m : IsIn (exact_numbers o exact) es (q.0, n))
      → number_cmp R m.run.0 q ≡ Less → ⊥
  not_before n l m b =
      true≢false
      (sym (has_in (exact_numbers o exact) es q m.run m.is_in (lt_le (exact_numbers o exact) m.run.0 q b)
      (le_trans (exact_numbers o exact) q (q.0, n) m.run.1 (size_le o exact q.0 q.1 n l) m.within))
      ∙ lacks)

  pub none_onward : first_from (number_cmp R) q es ≡ None → (n : ℕ) → q.1 ≤ n
      → has (number_cmp R) es (q.0, n) ≡ false
  none_onward h n l = false_from_ne_true (has (number_cmp R) es (q.0, n)) (λ g.
      let m : IsIn (exact_numbers o exact) es (q.0, n) = has_from (exact_numbers o exact) es (q.0, n) g in
      not_before n l m (none_from_on (exact_numbers o exact) q es h m.run m.is_in))

  module _ (y : Run P) (h : first_from (number_cmp R) q es ≡ Some y) where
    first : IsFirst (exact_numbers o exact) q es y
    first = first_is (exact_numbers o exact) q es (runs_rise (follow o exact) es set.runs) y h

    from_first : (n : ℕ) → q.1 ≤ n → has (number_cmp R) es (q.0, n) ≡ true
        → is_le (number_cmp R y.0 (q.0, n)) ≡ true
    from_first n l g =
        let m : IsIn (exact_numbers o exact) es (q.0, n) = has_from (exact_numbers o exact) es (q.0, n) g in
        elim (first.others m.run m.is_in) [
          | inl before ↦ absurd (not_before n l m before)
          | inr above ↦ le_trans (exact_numbers o exact) y.0 m.run.0 (q.0, n) above m.above
        ]

    pub others_onward : (R y.0.0 q.0 ≡ Equal → ⊥) → (n : ℕ) → q.1 ≤ n → has (number_cmp R) es (q.0, n) ≡ false
    others_onward other n l = false_from_ne_true (has (number_cmp R) es (q.0, n)) (λ g.
        let same = squeezed o exact y.0.0 q.0 (thing_le o exact y.0 (q.0, n) (from_first n l g))
        (thing_le o exact q y.0 first.above) in
        other (subst (λ (p : P). R y.0.0 p ≡ Equal) same (tied_itself o y.0.0)))

    module _ (same : y.0.0 ≡ q.0) where
      from_here : q.1 ≤ y.0.1
      from_here =
          le_size o exact q.0 q.1 y.0.1
          (subst (λ (p : P). is_le (number_cmp R q (p, y.0.1)) ≡ true) same first.above)

      has_here : has (number_cmp R) es (q.0, y.0.1) ≡ true
      has_here =
          subst (λ (p : P). has (number_cmp R) es (p, y.0.1) ≡ true) same
          (has_in (exact_numbers o exact) es y.0 y first.is_in
          (le_itself (exact_numbers o exact) y.0)
          (not_empty (follow o exact) es set.runs y first.is_in))

      none_between : (n : ℕ) → q.1 ≤ n → n < y.0.1 → has (number_cmp R) es (q.0, n) ≡ false
      none_between n l b = false_from_ne_true (has (number_cmp R) es (q.0, n)) (λ g.
          let le : y.0.1 ≤ n =
          le_size o exact q.0 y.0.1 n
          (subst (λ (p : P). is_le (number_cmp R (p, y.0.1) (q.0, n)) ≡ true) same (from_first n l g)) in
          absurd (omega (arith, le, b)))

      pub here_onward :
          (q.1 ≤ y.0.1) × (has (number_cmp R) es (q.0, y.0.1) ≡ true)
          × ((n : ℕ) → q.1 ≤ n → n < y.0.1 → has (number_cmp R) es (q.0, n) ≡ false)
      here_onward = (from_here, has_here, none_between)

pub not_equal : (x : Ordering) → is_eq x ≡ false → x ≡ Equal → ⊥
not_equal Less h e = cc
not_equal Equal h e = true≢false h
not_equal Greater h e = cc
