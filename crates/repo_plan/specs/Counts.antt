-- How many numbers of a range pass a test.
use Rattle.std.specs.Prelude.{ℕ, Bool, length}
use Rattle.std.specs.List.{filter}
use Rattle.sorted_lists.specs.Range.{numbers_from}

-- how many of the `n` numbers from `first` on pass a test
abbrev pub how_many : (ℕ → Bool) → ℕ → ℕ → ℕ
how_many test first n = length (filter test (numbers_from first n))
