-- The least, the median and the greatest of numbers stand at known places once they are in order.
use Rattle.std.proofs.Common.{◌≡◌, ℕ, zero, suc, ◌+◌, ◌*◌, ◌<◌, ◌≤◌, min, max, Bool, true, false, cond, leb, List}
use Rattle.std.proofs.Common.{[]}
use Rattle.std.proofs.Common.{◌∷◌, length, take, drop, get_or, refl, ap, ◌∙◌, arith, inl, inr}
use Rattle.std.specs.List.{All, Contains, count_by, filter, fold}
use Rattle.std.specs.List.Sorted.{IsNonDecreasing, IsPermutation}
use Rattle.std.proofs.lemmas.Bool.{both_ways, cases_lt, le-leb, lt-leb}
use Rattle.std.proofs.lemmas.List.{get_or-drop, get_or-take, length-drop, length-take}
use Rattle.std.proofs.lemmas.List.Elements.{All-from_get_or, All-head, All-tail, Contains-get_or, filter_passes}
use Rattle.std.proofs.lemmas.List.Sorted.{All-permutation, Contains-permutation, IsPermutation-sym, length_permutation}
use Rattle.std.proofs.lemmas.List.Sorted.{sum_by-IsPermutation}
use Rattle.std.proofs.lemmas.List.Sums.{count_by-le-length, sum_by-cons, sum_by-take-drop, sum_by-take-le}
use Rattle.lab_seeds.specs.declared.figures.Figures.{Figures}
use Rattle.lab_seeds.specs.declared.ranks.Ranks.{Ranks}
use Rattle.lab_seeds.specs.Ranks.{greatest, is_half_reached, least, median, ranks_among}
use Rattle.lab_seeds.specs.Texts.{ranks_lines, ranks_text}

-- ---- the least and the greatest

min_above : (a : ℕ) (ns : List ℕ) → fold min a ns ≤ a
min_above a [] = omega arith
min_above a (n ∷ ns) = let h = min_above (min a n) ns in omega arith

min_above_each : (a : ℕ) (ns : List ℕ) (i d : ℕ) → i < length ns → fold min a ns ≤ get_or ns i d
min_above_each a [] i d lt = absurd (omega arith)
min_above_each a (n ∷ ns) zero d lt = let h = min_above (min a n) ns in omega arith
min_above_each a (n ∷ ns) (suc i) d lt = min_above_each (min a n) ns i d (omega arith)

min_below : (a m : ℕ) (ns : List ℕ) → m ≤ a → All (λ n. m ≤ n) ns → m ≤ fold min a ns
min_below a m [] le all = le
min_below a m (n ∷ ns) le all =
    let h : m ≤ n = All-head (λ n. m ≤ n) n ns all in
    min_below (min a n) m ns (omega arith) (All-tail (λ n. m ≤ n) n ns all)

least_above : (n m : ℕ) (ns : List ℕ) (i : ℕ) → i < length (n ∷ ns) → get_or (n ∷ ns) i m ≡ m → fold min n ns ≤ m
least_above n m ns zero lt e = let h = min_above n ns in omega arith
least_above n m ns (suc i) lt e = let h = min_above_each n ns i m (omega arith) in omega arith

pub least_is : (ns : List ℕ) (m : ℕ) → Contains ns m → All (λ n. m ≤ n) ns → least ns ≡ m
least_is [] m has all = let h = has.1 in absurd (omega arith)
least_is (n ∷ ns) m has all =
    let above = least_above n m ns has.0 has.1 has.2 in
    let below = min_below n m ns (All-head (λ n. m ≤ n) n ns all) (All-tail (λ n. m ≤ n) n ns all) in
    omega arith

max_below : (a : ℕ) (ns : List ℕ) → a ≤ fold max a ns
max_below a [] = omega arith
max_below a (n ∷ ns) = let h = max_below (max a n) ns in omega arith

max_below_each : (a : ℕ) (ns : List ℕ) (i d : ℕ) → i < length ns → get_or ns i d ≤ fold max a ns
max_below_each a [] i d lt = absurd (omega arith)
max_below_each a (n ∷ ns) zero d lt = let h = max_below (max a n) ns in omega arith
max_below_each a (n ∷ ns) (suc i) d lt = max_below_each (max a n) ns i d (omega arith)

max_above : (a m : ℕ) (ns : List ℕ) → a ≤ m → All (λ n. n ≤ m) ns → fold max a ns ≤ m
max_above a m [] le all = le
max_above a m (n ∷ ns) le all =
    let h : n ≤ m = All-head (λ n. n ≤ m) n ns all in
    max_above (max a n) m ns (omega arith) (All-tail (λ n. n ≤ m) n ns all)

greatest_below : (n m : ℕ) (ns : List ℕ) (i : ℕ) → i < length (n ∷ ns) → get_or (n ∷ ns) i m ≡ m
    → m ≤ fold max n ns
greatest_below n m ns zero lt e = let h = max_below n ns in omega arith
greatest_below n m ns (suc i) lt e = let h = max_below_each n ns i m (omega arith) in omega arith

pub greatest_is : (ns : List ℕ) (m : ℕ) → Contains ns m → All (λ n. n ≤ m) ns → greatest ns ≡ m
greatest_is [] m has all = let h = has.1 in absurd (omega arith)
greatest_is (n ∷ ns) m has all =
    let below = greatest_below n m ns has.0 has.1 has.2 in
    let above = max_above n m ns (All-head (λ n. n ≤ m) n ns all) (All-tail (λ n. n ≤ m) n ns all) in
    omega arith

-- ---- counts

count_all : (p : ℕ → Bool) (ns : List ℕ) → All (λ n. p n ≡ true) ns → count_by p ns ≡ length ns
count_all p [] all = refl
count_all p (n ∷ ns) all =
    let here : p n ≡ true = All-head (λ n. p n ≡ true) n ns all in
    let more = count_all p ns (All-tail (λ n. p n ≡ true) n ns all) in
    let sum = sum_by-cons (λ n. cond (p n) 1 0) n ns in
    sum ∙ rw here (omega arith)

count_none : (p : ℕ → Bool) (ns : List ℕ) → All (λ n. p n ≡ false) ns → count_by p ns ≡ 0
count_none p [] all = refl
count_none p (n ∷ ns) all =
    let here : p n ≡ false = All-head (λ n. p n ≡ false) n ns all in
    let more = count_none p ns (All-tail (λ n. p n ≡ false) n ns all) in
    let sum = sum_by-cons (λ n. cond (p n) 1 0) n ns in
    sum ∙ rw here (omega arith)

-- an element that passes stands among those that pass
contains_passed : (p : ℕ → Bool) (ns : List ℕ) (m i : ℕ) → i < length ns → get_or ns i m ≡ m → p m ≡ true
    → Contains (filter p ns) m
contains_passed p [] m i lt e passes = absurd (omega arith)
contains_passed p (n ∷ ns) m zero lt e passes =
    let here : p n ≡ true = ap p e ∙ passes in rw here (0, omega arith, e)
contains_passed p (n ∷ ns) m (suc i) lt e passes = by_test (p n) (contains_passed p ns m i (omega arith) e passes) where
  by_test : (test : Bool) → Contains (filter p ns) m → Contains (cond test (n ∷ filter p ns) (filter p ns)) m
  by_test true h = (suc h.0, (let lt = h.1 in omega arith), h.2)
  by_test false h = h

-- ---- in order

module _ (ns sorted : List ℕ) (same : IsPermutation ns sorted) (up : IsNonDecreasing sorted) (some : 0 < length sorted)
  where
    contained : (i : ℕ) → i < length sorted → Contains ns (get_or sorted i 0)
    contained i lt = Contains-permutation sorted ns (get_or sorted i 0) (IsPermutation-sym ns sorted same)
        (Contains-get_or sorted i 0 lt)

    pub first_is_least : least ns ≡ get_or sorted 0 0
    first_is_least = least_is ns (get_or sorted 0 0) (contained 0 some)
        (All-permutation (λ n. get_or sorted 0 0 ≤ n) sorted ns (IsPermutation-sym ns sorted same)
        (All-from_get_or (λ n. get_or sorted 0 0 ≤ n) sorted 0 (λ i lt. up 0 i 0 (omega arith) lt)))

    pub last_is_greatest : (last : ℕ) → last + 1 ≡ length sorted → greatest ns ≡ get_or sorted last 0
    last_is_greatest last e = greatest_is ns (get_or sorted last 0) (contained last (omega arith))
        (All-permutation (λ n. n ≤ get_or sorted last 0) sorted ns (IsPermutation-sym ns sorted same)
        (All-from_get_or (λ n. n ≤ get_or sorted last 0) sorted 0
        (λ i lt. up i last 0 (omega arith) (omega arith))))

    same_count : (x : ℕ) → count_by (λ n. leb n x) sorted ≡ count_by (λ n. leb n x) ns
    same_count x = sum_by-IsPermutation (λ n. cond (leb n x) 1 0) ns sorted same

    module _ (middle : ℕ) (low : 2 * middle < length sorted) (high : length sorted ≤ 2 * (middle + 1)) where
      -- those up to the middle are not above it
      enough : middle + 1 ≤ count_by (λ n. leb n (get_or sorted middle 0)) sorted
      enough =
          let p = λ (n : ℕ). leb n (get_or sorted middle 0) in
          let part = sum_by-take-le (λ n. cond (p n) 1 0) sorted (middle + 1) in
          let len = length-take (middle + 1) sorted in
          let each : (i : ℕ) → i < length (take (middle + 1) sorted)
          → p (get_or (take (middle + 1) sorted) i 0) ≡ true =
          λ i lt.
          let within : i < middle + 1 = omega arith in
          rw get_or-take (le-leb (get_or sorted i 0) (get_or sorted middle 0)
          (up i middle 0 (omega arith) (omega arith))) in
          let all = count_all p (take (middle + 1) sorted)
          (All-from_get_or (λ n. p n ≡ true) (take (middle + 1) sorted) 0 each) in
          omega arith

      -- those from the middle on are above a lesser number
      fewer : (x : ℕ) → x < get_or sorted middle 0 → count_by (λ n. leb n x) sorted ≤ middle
      fewer x less =
          let p = λ (n : ℕ). leb n x in
          let parts = sum_by-take-drop (λ n. cond (p n) 1 0) sorted middle in
          let prefix = count_by-le-length p (take middle sorted) in
          let len = length-take middle sorted in
          let left = length-drop middle sorted in
          let each : (i : ℕ) → i < length (drop middle sorted) → p (get_or (drop middle sorted) i 0) ≡ false =
          λ i lt.
          let order = up middle (middle + i) 0 (omega arith) (omega arith) in
          rw get_or-drop (lt-leb (get_or sorted (middle + i) 0) x (omega arith)) in
          let none = count_none p (drop middle sorted)
          (All-from_get_or (λ n. p n ≡ false) (drop middle sorted) 0 each) in
          omega arith

      half_reached : is_half_reached ns (get_or sorted middle 0) ≡ true
      half_reached =
          let m = get_or sorted middle 0 in
          let len = length_permutation ns sorted same in
          let count = same_count m in
          let e = enough in
          le-leb (length ns) (2 * count_by (λ n. leb n m) ns) (omega arith)

      not_before : (x : ℕ) → is_half_reached ns x ≡ true → get_or sorted middle 0 ≤ x
      not_before x passes = elim (cases_lt x (get_or sorted middle 0)) [
        | inl less ↦
            let len = length_permutation ns sorted same in
            let count = same_count x in
            let few = fewer x less in
            absurd (both_ways (is_half_reached ns x)
            (lt-leb (length ns) (2 * count_by (λ n. leb n x) ns) (omega arith)) passes)
        | inr le ↦ le
      ]

      pub middle_is_median : median ns ≡ get_or sorted middle 0
      middle_is_median =
          let m = get_or sorted middle 0 in
          let there = contained middle (omega arith) in
          least_is (filter (is_half_reached ns) ns) m
          (contains_passed (is_half_reached ns) ns m there.0 there.1 there.2 half_reached)
          (λ k d lt. not_before (get_or (filter (is_half_reached ns) ns) k d)
          (filter_passes (is_half_reached ns) ns k d lt))

-- ---- figures

abbrev figures : (syncs delivered attempts parts octets listed : ℕ) → Figures
figures syncs delivered attempts parts octets listed = record {
  syncs = syncs;
  delivered = delivered;
  attempts = attempts;
  parts = parts;
  octets = octets;
  listed = listed;
}

pub same_figures : {s s' d d' a a' p p' o o' l l' : ℕ} → s ≡ s' → d ≡ d' → a ≡ a' → p ≡ p' → o ≡ o' → l ≡ l'
    → figures s d a p o l ≡ figures s' d' a' p' o' l'
same_figures s d a p o l = cc

abbrev ranks : (least median greatest : Figures) → Ranks
ranks least median greatest = record { least = least; median = median; greatest = greatest }

pub same_ranks : {l l' m m' g g' : Figures} → l ≡ l' → m ≡ m' → g ≡ g' → ranks l m g ≡ ranks l' m' g'
same_ranks l m g = cc

pub some_ranks : (all : List Figures) → 0 < length all → ranks_lines (ranks_among all) ≡ ranks_text all
some_ranks [] some = absurd (omega arith)
some_ranks (f ∷ all) some = refl
