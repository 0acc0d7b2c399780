-- The least, the median and the greatest of numbers.
use Rattle.std.specs.Prelude.{ℕ, ◌*◌, min, max, Bool, nat_le, List, [], ◌∷◌, map, length}
use Rattle.std.specs.List.{count_by, filter, fold}
use Rattle.lab_seeds.specs.declared.figures.Figures.{Figures}
use Rattle.lab_seeds.specs.declared.ranks.Ranks.{Ranks}

-- The least of the numbers, and 0 where there are none.
abbrev pub least : List ℕ → ℕ
least [] = 0
least (n ∷ ns) = fold min n ns

-- The greatest of the numbers, and 0 where there are none.
abbrev pub greatest : List ℕ → ℕ
greatest [] = 0
greatest (n ∷ ns) = fold max n ns

-- At least half of the numbers are not above `m`.
abbrev pub is_half_reached : List ℕ → ℕ → Bool
is_half_reached ns m = nat_le (length ns) (2 * count_by (λ n. nat_le n m) ns)

-- The least of the numbers that at least half of them are not above. Of an even number of them it is the lesser one of
-- the two in the middle.
abbrev pub median : List ℕ → ℕ
median ns = least (filter (is_half_reached ns) ns)

-- Figures of which each number is what `pick` gives for the numbers of its kind in `all`.
abbrev pub each_picked : (List ℕ → ℕ) → List Figures → Figures
each_picked pick all = record {
  syncs = pick (map (λ (f : Figures). f.syncs) all);
  delivered = pick (map (λ (f : Figures). f.delivered) all);
  attempts = pick (map (λ (f : Figures). f.attempts) all);
  parts = pick (map (λ (f : Figures). f.parts) all);
  octets = pick (map (λ (f : Figures). f.octets) all);
  listed = pick (map (λ (f : Figures). f.listed) all);
}

-- The least, the median and the greatest of figures, number by number.
abbrev pub ranks_among : List Figures → Ranks
ranks_among all = record {
  least = each_picked least all;
  median = each_picked median all;
  greatest = each_picked greatest all;
}
