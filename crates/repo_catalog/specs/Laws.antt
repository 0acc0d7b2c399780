-- What the changes and look-ups of a catalogue mean for each publication.
use Rattle.std.specs.Prelude.{◌≡◌, ◌≢◌, not, ◌&&◌, List, Some, None, MatchOption, if◌then◌else◌}
use Rattle.std.specs.Option.{option_or}
use Rattle.std.specs.Ordering.{eq_by_cmp}
use Rattle.std.specs.declared.cmp.Ordering.TheVariants.{Less}
use Rattle.ndn_name.specs.Names.{Component}
use Rattle.repo_plan.specs.Parts.{Pair, pair_cmp}
use Rattle.sorted_lists.specs.SortedList.{contains}
use Rattle.repo_catalog.specs.declared.entry.Entry.{Entry}
use Rattle.repo_catalog.specs.Entries.{publication_of, is_of, entry_of, lists, first_named, with_entry, without}
use Rattle.repo_catalog.specs.Entries.{with_entries, without_all, IsCatalogue}

-- An entry that is added is that of its publication, where this had none. All others stay.
abbrev pub AddsOne : Type 0
AddsOne = (e : Entry) (entries : List Entry) (pair : Pair) → IsCatalogue entries
    → entry_of pair (with_entry e entries)
    ≡ (if is_of pair e && not (lists pair entries) then Some e else entry_of pair entries)

-- The publication whose entry is removed has none. All others stay.
abbrev pub RemovesOne : Type 0
RemovesOne = (gone : Pair) (entries : List Entry) (pair : Pair)
    → entry_of pair (without gone entries) ≡ (if eq_by_cmp pair_cmp pair gone then None else entry_of pair entries)

-- After entries are added one by one, a publication has the entry that it had, or else the first of these.
abbrev pub AddsAll : Type 0
AddsAll = (es entries : List Entry) (pair : Pair) → IsCatalogue entries
    → entry_of pair (with_entries es entries) ≡ option_or (entry_of pair entries) (entry_of pair es)

-- The publications whose entries are removed have none. All others stay.
abbrev pub RemovesAll : Type 0
RemovesAll = (gone : List Pair) (entries : List Entry) (pair : Pair)
    → entry_of pair (without_all gone entries)
    ≡ (if contains pair_cmp gone pair then None else entry_of pair entries)

-- Catalogues that have the same entry for each publication are the same.
abbrev pub EntriesTellAll : Type 0
EntriesTellAll = (a b : List Entry) → IsCatalogue a → IsCatalogue b
    → ((pair : Pair) → entry_of pair a ≡ entry_of pair b) → a ≡ b

-- The entry is that of its publication.
abbrev pub IsListed : List Entry → Entry → Type 0
IsListed entries e = entry_of (publication_of e) entries ≡ Some e

-- The entry has the name, and no entry of a lesser publication has it.
pub record IsLeastNamed (name : List Component) (entries : List Entry) (e : Entry) : Type 0 where
  pub listed : IsListed entries e
  pub named : e.name ≡ name
  pub least : (f : Entry) → IsListed entries f → f.name ≡ name
      → pair_cmp (publication_of f) (publication_of e) ≢ Less

-- No entry has the name.
abbrev pub NoEntryHasName : List Component → List Entry → Type 0
NoEntryHasName name entries = (f : Entry) → IsListed entries f → f.name ≢ name

-- The first entry of a name is the least, and there is none only where no entry has the name.
abbrev pub FirstIsLeast : Type 0
FirstIsLeast = (name : List Component) (entries : List Entry) → IsCatalogue entries
    → MatchOption (first_named name entries) (NoEntryHasName name entries) (IsLeastNamed name entries)
