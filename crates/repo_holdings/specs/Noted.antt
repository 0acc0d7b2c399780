-- Notes of what stored records say: the names of objects, and which publications are withdrawn.
use Rattle.std.specs.Prelude.{◌≡◌, ℕ, ◌≤◌, List, Some, None}
use Rattle.std.specs.HashMap.{spare}
use Rattle.ndn_name.specs.Names.{Component}
use Rattle.sorted_lists.specs.SortedList.{contains, in_order, keys, value_of}
use Rattle.repo_plan.specs.Parts.{Pair, pair_cmp}
use Rattle.repo_object.specs.Publication.{Listed}
use Rattle.repo_holdings.specs.Records.{Packet}
use Rattle.repo_holdings.specs.Listed.{listing_at, whole_at, is_withdrawn}
use Rattle.repo_holdings.specs.declared.notes.Notes.TheInside.{Inside}

-- names of objects by publication, the publications that are withdrawn, and for how many more there is capacity
pub record NotesState : Type 0 where
  pub names : List (Pair × List Component)  -- in order
  pub withdrawn : List Pair  -- in order
  pub spare : ℕ

-- the value that the fields give
abbrev pub noted : Inside → NotesState
noted n = record {
  names = in_order pair_cmp n.names.entries;
  withdrawn = keys n.withdrawn.entries;
  spare = n.spare;
}

-- there is capacity for `n.spare` more names and for as many withdrawn publications
pub record AreRoomy (n : Inside) : Type 0 where
  pub names : n.spare ≤ spare n.names
  pub withdrawn : n.spare ≤ n.withdrawn.spare

-- the notes agree with the stored packets: they have the publications that stored records withdraw, and the name of
-- each object whose record is stored and that is not stored whole
pub record AreNotes (notes : NotesState) (packets : List Packet) : Type 0 where
  pub withdrawn : (pair : Pair) → contains pair_cmp notes.withdrawn pair ≡ is_withdrawn packets pair
  pub names : (pair : Pair) (l : Listed) → listing_at packets pair ≡ Some l → whole_at packets pair ≡ None
      → value_of pair_cmp notes.names pair ≡ Some l.name
