-- How a row of entries is kept.
use Rattle.std.specs.Prelude.{ℕ, ◌-◌, ◌≤◌, List, length, drop, vec_capacity}
use Rattle.repo_catalog.specs.declared.entry.Entry.{Entry}
use Rattle.repo_catalog.specs.declared.entry_row.EntryRow.TheInside.{Inside}

-- Entries, and for how many there is capacity in all.
pub record Row : Type 0 where
  pub items : List Entry
  pub capacity : ℕ

-- The first `gone` entries of the vector no longer count.
abbrev pub row_of : Inside → Row
row_of i = record { items = drop i.gone i.all.items; capacity = vec_capacity i.all - i.gone }

-- No more are gone than there were.
abbrev pub IsRow : Inside → Type 0
IsRow i = i.gone ≤ length i.all.items
