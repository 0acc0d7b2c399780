-- How many numbers of a range pass a test.
use Rattle.std.proofs.Common.{◌≡◌, ℕ, suc, zero, ◌+◌, ◌-◌, ◌≤◌, ◌<◌, Bool, true, false, not, ◌&&◌, cond, List, []}
use Rattle.std.proofs.Common.{◌∷◌, map, length, refl, sym, ap, ◌∙◌, arith}
use Rattle.std.proofs.lemmas.List.Filters.{length-filter_both}
use Rattle.std.proofs.lemmas.Bool.{true≢false, leb-true, leb-false}
use Rattle.std.specs.Prelude.{nat_le}
use Rattle.std.specs.List.{filter}
use Rattle.sorted_lists.specs.Range.{numbers_from}
use Rattle.sorted_lists.proofs.Ranges.{length-numbers}
use Rattle.repo_plan.specs.Counts.{how_many}

module _ (f : ℕ → Bool) where
  -- the first of the numbers is counted or not
  counted_one : (first k : ℕ) → f first ≡ true → how_many f first (suc k) ≡ suc (how_many f (first + 1) k)
  counted_one first k e =
      let rest = filter f (numbers_from (first + 1) k) in
      ap (λ (c : Bool). length (cond c (first ∷ rest) rest)) e

  passed_one : (first k : ℕ) → f first ≡ false → how_many f first (suc k) ≡ how_many f (first + 1) k
  passed_one first k e =
      let rest = filter f (numbers_from (first + 1) k) in
      ap (λ (c : Bool). length (cond c (first ∷ rest) rest)) e

  none_first : (first m k : ℕ) → ((x : ℕ) → first ≤ x → x < first + m → f x ≡ false)
      → how_many f first (m + k) ≡ how_many f (first + m) k
  none_first first zero k h =
      let n : zero + k ≡ k = omega arith in
      let e : first ≡ first + zero = omega arith in
      λ i. how_many f (e i) (n i)
  none_first first (suc m) k h =
      let n : suc m + k ≡ suc (m + k) = omega arith in
      let e : first + 1 + m ≡ first + suc m = omega arith in
      ap (how_many f first) n ∙ passed_one first (m + k) (h first (omega arith) (omega arith))
      ∙ none_first (first + 1) m k (λ x a b. h x (omega (arith, a)) (omega (arith, b)))
      ∙ ap (λ (a : ℕ). how_many f a k) e

  all_first : (first m k : ℕ) → ((x : ℕ) → first ≤ x → x < first + m → f x ≡ true)
      → how_many f first (m + k) ≡ m + how_many f (first + m) k
  all_first first zero k h =
      let n : zero + k ≡ k = omega arith in
      let e : first ≡ first + zero = omega arith in
      let z : how_many f first k ≡ zero + how_many f first k = omega arith in
      ap (how_many f first) n ∙ z ∙ ap (λ (a : ℕ). zero + how_many f a k) e
  all_first first (suc m) k h =
      let n : suc m + k ≡ suc (m + k) = omega arith in
      let e : first + 1 + m ≡ first + suc m = omega arith in
      let one : how_many f first (suc m + k) ≡ suc (how_many f (first + 1) (m + k)) =
      ap (how_many f first) n ∙ counted_one first (m + k) (h first (omega arith) (omega arith)) in
      let more : how_many f (first + 1) (m + k) ≡ m + how_many f (first + suc m) k =
      all_first (first + 1) m k (λ x a b. h x (omega (arith, a)) (omega (arith, b)))
      ∙ ap (λ (a : ℕ). m + how_many f a k) e in
      omega (arith, one, more)

  -- up to a number none passes
  pub none_until : (a b c : ℕ) → a ≤ b → b ≤ c → ((x : ℕ) → a ≤ x → x < b → f x ≡ false)
      → how_many f a (c - a) ≡ how_many f b (c - b)
  none_until a b c l m h =
      let n : c - a ≡ (b - a) + (c - b) = omega (arith, l, m) in
      let e : a + (b - a) ≡ b = omega (arith, l) in
      ap (how_many f a) n ∙ none_first a (b - a) (c - b) (λ x i j. h x i (omega (arith, j, e)))
      ∙ ap (λ (q : ℕ). how_many f q (c - b)) e

  -- up to a number all pass
  pub all_until : (a b c : ℕ) → a ≤ b → b ≤ c → ((x : ℕ) → a ≤ x → x < b → f x ≡ true)
      → how_many f a (c - a) ≡ (b - a) + how_many f b (c - b)
  all_until a b c l m h =
      let n : c - a ≡ (b - a) + (c - b) = omega (arith, l, m) in
      let e : a + (b - a) ≡ b = omega (arith, l) in
      ap (how_many f a) n ∙ all_first a (b - a) (c - b) (λ x i j. h x i (omega (arith, j, e)))
      ∙ ap (λ (q : ℕ). (b - a) + how_many f q (c - b)) e

  -- none is left
  pub none_left : (a c : ℕ) → ((x : ℕ) → a ≤ x → x < c → f x ≡ false) → how_many f a (c - a) ≡ 0
  none_left a c h = go (nat_le a c) refl where
    go : (b : Bool) → nat_le a c ≡ b → how_many f a (c - a) ≡ 0
    go true l =
        let e : c - c ≡ 0 = omega arith in
        none_until a c c (leb-true a c l) (omega arith) h ∙ ap (how_many f c) e
    go false l =
        let m : c < a = leb-false a c l in
        let e : c - a ≡ 0 = omega (arith, m) in
        ap (how_many f a) e

  pub nothing : (a n : ℕ) → ((x : ℕ) → f x ≡ false) → how_many f a n ≡ 0
  nothing a n h =
      let e : n ≡ n + zero = omega arith in
      ap (how_many f a) e ∙ none_first a n zero (λ x b c. h x)

  -- each passes
  pub every : (a n : ℕ) → ((x : ℕ) → a ≤ x → x < a + n → f x ≡ true) → how_many f a n ≡ n
  every a n h =
      let e : n ≡ n + zero = omega arith in
      let z : n + how_many f (a + n) zero ≡ n = omega arith in
      ap (how_many f a) e ∙ all_first a n zero h ∙ z

  pub at_most : (first n : ℕ) → how_many f first n ≤ n
  at_most first zero = omega arith
  at_most first (suc n) = go (at_most (first + 1) n) (f first) refl where
    go : how_many f (first + 1) n ≤ n → (b : Bool) → f first ≡ b → how_many f first (suc n) ≤ suc n
    go l true e = omega (arith, counted_one first n e, l)
    go l false e = omega (arith, passed_one first n e, l)

  -- the others
  pub not_many : (first n : ℕ) → how_many f first n + how_many (λ x. not (f x)) first n ≡ n
  not_many first n =
      length-filter_both f (λ x. not (f x)) (λ x. refl) (numbers_from first n) ∙ length-numbers first n

-- those that pass one test pass a second one or not
pub parted : (f g h : ℕ → Bool) → ((x : ℕ) → h x ≡ (f x && not (g x))) → ((x : ℕ) → g x ≡ true → f x ≡ true)
    → (first n : ℕ) → how_many f first n ≡ how_many g first n + how_many h first n
parted f g h rest within first zero = refl
parted f g h rest within first (suc n) =
    go (parted f g h rest within (first + 1) n) (f first) (g first) refl refl where
      go : how_many f (first + 1) n ≡ how_many g (first + 1) n + how_many h (first + 1) n → (b c : Bool)
          → f first ≡ b → g first ≡ c → how_many f first (suc n) ≡ how_many g first (suc n) + how_many h first (suc n)
      go more true true e d =
          let r : h first ≡ false = rest first ∙ (λ i. e i && not (d i)) in
          omega (arith, counted_one f first n e, counted_one g first n d, passed_one h first n r, more)
      go more true false e d =
          let r : h first ≡ true = rest first ∙ (λ i. e i && not (d i)) in
          omega (arith, counted_one f first n e, passed_one g first n d, counted_one h first n r, more)
      go more false true e d = absurd (true≢false (sym (within first d) ∙ e))
      go more false false e d =
          let r : h first ≡ false = rest first ∙ (λ i. e i && not (d i)) in
          omega (arith, passed_one f first n e, passed_one g first n d, passed_one h first n r, more)

-- what is made of numbers passes as these do
pub made_of : {A : Type 0} (make : ℕ → A) (test : A → Bool) (xs : List ℕ)
    → length (filter test (map make xs)) ≡ length (filter (λ x. test (make x)) xs)
made_of make test [] = refl
made_of make test (x ∷ xs) = go (made_of make test xs) (test (make x)) where
  go : length (filter test (map make xs)) ≡ length (filter (λ y. test (make y)) xs) → (b : Bool)
      → length (cond b (make x ∷ filter test (map make xs)) (filter test (map make xs)))
      ≡ length (cond b (x ∷ filter (λ y. test (make y)) xs) (filter (λ y. test (make y)) xs))
  go h true = ap suc h
  go h false = h

-- a count under way: what is counted so far, and what is still to be counted
pub record IsCount (all count rest passed : ℕ) : Type 0 where
  pub whole : all ≡ count + rest
  pub few : count ≤ passed

-- tests that agree, at the same numbers
pub same_many : (f g : ℕ → Bool) → ((x : ℕ) → f x ≡ g x) → (first first2 n m : ℕ) → first ≡ first2 → n ≡ m
    → how_many f first n ≡ how_many g first2 m
same_many f g h first first2 n m e d = λ i. how_many (λ x. h x i) (e i) (d i)
