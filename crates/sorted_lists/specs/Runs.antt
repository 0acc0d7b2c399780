-- Sets of numbers, of several things each, as runs.
use Rattle.std.specs.Prelude.{ℕ, ◌≡◌, ◌+◌, ◌-◌, ◌≤◌, ◌<◌, map, Bool, true, false, ◌&&◌, Option, Some, None}
use Rattle.std.specs.Prelude.{if◌then◌else◌, List, [], ◌∷◌}
use Rattle.std.specs.List.{list_any, flat_map}
use Rattle.std.specs.Ordering.{nat_cmp, ordering_then, is_le, eq_by_cmp}
use Rattle.std.specs.declared.cmp.Ordering.{Ordering}
use Rattle.sorted_lists.specs.SortedList.{keys, IsBefore}
use Rattle.sorted_lists.specs.Range.{numbers_from}

-- a number of something
abbrev pub Number : Type 0 → Type 0
Number P = P × ℕ

-- the next number of it
abbrev pub next : {P : Type 0} → Number P → Number P
next q = (q.0, q.1 + 1)

-- a run's first and last number
abbrev pub Run : Type 0 → Type 0
Run P = Number P × Number P

module _ {K : Type 0} (R : K → K → Ordering) where
  -- whether the key is between a run's first and last
  abbrev pub is_within : K → K × K → Bool
  is_within q run = is_le (R run.0 q) && is_le (R q run.1)

  -- whether the key is in one of the runs
  abbrev pub has : List (K × K) → K → Bool
  has runs q = list_any (is_within q) runs

  -- the runs are in order, are not empty, and neither overlap nor touch
  abbrev pub AreRuns : (K → K) → List (K × K) → Type 0
  AreRuns next [] = Unit {0}
  AreRuns next (run ∷ runs) = (is_le (R run.0 run.1) ≡ true) × IsBefore R (next run.1) (keys runs) × AreRuns next runs

  -- where the run of one more key begins, by the last run that doesn't begin after it: where that one begins, if it
  -- ends right before the key, and else at the key
  abbrev pub start_at : (K → K) → Option (K × K) → K → K
  start_at next None q = q
  start_at next (Some run) q = if eq_by_cmp R (next run.1) q then run.0 else q

  -- where it ends, by the first run that doesn't begin in front of it
  abbrev pub end_at : (K → K) → Option (K × K) → K → K
  end_at next None q = q
  end_at next (Some run) q = if eq_by_cmp R (next q) run.0 then run.1 else q

module _ {P : Type 0} (R : P → P → Ordering) where
  -- by what they are numbers of, then by size
  abbrev pub number_cmp : Number P → Number P → Ordering
  number_cmp a b = ordering_then (R a.0 b.0) (nat_cmp a.1 b.1)

  -- each run is of numbers of one thing
  abbrev pub AreOfOne : List (Run P) → Type 0
  AreOfOne [] = Unit {0}
  AreOfOne (run ∷ runs) = (run.0.0 ≡ run.1.0) × AreOfOne runs

  -- what holds of the runs of every set
  pub record IsRuns (es : List (Run P)) : Type 0 where
    pub runs : AreRuns number_cmp next es
    pub one : AreOfOne es

-- the numbers of a run
abbrev pub run_numbers : {P : Type 0} → Run P → List (Number P)
run_numbers run = map (λ n. (run.0.0, n)) (numbers_from run.0.1 (run.1.1 + 1 - run.0.1))

-- those of a set
abbrev pub numbers_of : {P : Type 0} → List (Run P) → List (Number P)
numbers_of runs = flat_map run_numbers runs

-- where its runs end
abbrev pub lasts : {P : Type 0} → List (Run P) → List (Number P)
lasts runs = map (λ r. r.1) runs

-- what contracts see of a set
pub record RunsState (P : Type 0) : Type 0 where
  pub runs : List (Run P)  -- in order
  pub spare : ℕ  -- for how many more runs there is capacity

-- whether a set has the number
abbrev pub has_number : {P : Type 0} → (P → P → Ordering) → RunsState P → Number P → Bool
has_number R s q = has (number_cmp R) s.runs q

module _ {P : Type 0} (R : P → P → Ordering) where
  -- the least number of a thing, from one on, that a set has; or nothing where it has none
  abbrev pub IsNumberFrom : RunsState P → Number P → Option ℕ → Type 0
  IsNumberFrom s q None = (n : ℕ) → q.1 ≤ n → has_number R s (q.0, n) ≡ false
  IsNumberFrom s q (Some x) =
      (q.1 ≤ x) × (has_number R s (q.0, x) ≡ true)
      × ((n : ℕ) → q.1 ≤ n → n < x → has_number R s (q.0, n) ≡ false)
