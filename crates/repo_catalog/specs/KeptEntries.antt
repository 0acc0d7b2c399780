-- What is kept with the entries of a catalogue, and the room for more.
use Rattle.std.specs.Prelude.{◌≡◌, ℕ, ◌+◌, ◌≤◌, List, [], length}
use Rattle.repo_catalog.specs.declared.entry.Entry.{Entry}
use Rattle.repo_catalog.specs.declared.entry_totals.EntryTotals.{EntryTotals}
use Rattle.repo_catalog.specs.Entries.{IsCatalogue}
use Rattle.repo_catalog.specs.NameKeys.{KeyList, IsIndexOf}
use Rattle.repo_catalog.specs.EntryTotals.{totals_of}

-- The entries are in order, nothing is set aside, the index has their names or has them wait, and the sums are theirs.
pub record AreKept (entries aside : List Entry) (names : KeyList) (entry_totals : EntryTotals) : Type 0 where
  pub in_order : IsCatalogue entries
  pub none_aside : aside ≡ []
  pub indexed : IsIndexOf entries names.keys names.waiting
  pub summed : entry_totals ≡ totals_of entries

-- How many entries there are, how many there is room for, how many of them there is room to set aside, and how many
-- more names may wait.
pub record Room : Type 0 where
  pub len : ℕ
  pub capacity : ℕ
  pub capacity_aside : ℕ
  pub names : ℕ

-- The room of entries that have these capacities.
abbrev pub room_of : List Entry → ℕ → ℕ → KeyList → Room
room_of entries capacity capacity_aside names = record {
  len = length entries;
  capacity = capacity;
  capacity_aside = capacity_aside;
  names = names.spare;
}

-- There is room for `more` further entries.
pub record HasRoom (more : ℕ) (r : Room) : Type 0 where
  pub room : more + r.len ≤ r.capacity
  pub room_aside : more + r.len ≤ r.capacity_aside
  pub room_for_names : more ≤ r.names

-- At most `more` entries were added, and they took no other room.
pub record TakesRoom (more : ℕ) (old new : Room) : Type 0 where
  pub len : new.len ≤ old.len + more
  pub room : old.capacity ≤ new.capacity
  pub room_aside : old.capacity_aside ≤ new.capacity_aside
  pub room_for_names : old.names ≤ new.names + more
