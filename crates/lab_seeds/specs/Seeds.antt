-- The seeds.
use Rattle.std.specs.Prelude.{ℕ, ◌+◌, ◌-◌, List, ◌++◌, replicate}
use Rattle.std.specs.Int.{to_le_bytes, w64}
use Rattle.sorted_lists.specs.Range.{numbers_from}

-- The 32 octets of a seed: its 8, the lowest first, and 24 zeros.
abbrev pub seed_octets : ℕ → List ℕ
seed_octets seed = to_le_bytes w64 seed ++ replicate 24 0

-- The seeds from the first to the last.
abbrev pub seeds_between : ℕ → ℕ → List ℕ
seeds_between first last = numbers_from first (last + 1 - first)
