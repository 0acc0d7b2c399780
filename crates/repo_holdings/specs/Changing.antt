-- How notes and catalogues change when parts of one publication are newly stored.
use Rattle.std.specs.Prelude.{◌≡◌, Bool, false, ◌||◌, List, [], ◌∷◌, ◌++◌, Option, Some, None, if◌then◌else◌}
use Rattle.std.specs.Prelude.{IfSome, IsSomeAnd, option_map}
use Rattle.std.specs.Ordering.{eq_by_cmp}
use Rattle.sorted_lists.specs.SortedList.{contains, value_of}
use Rattle.repo_plan.specs.Parts.{Pair, pair_cmp}
use Rattle.repo_object.specs.Publication.{Listed}
use Rattle.repo_catalog.specs.declared.entry.Entry.{Entry}
use Rattle.repo_catalog.specs.Entries.{with_entry, without}
use Rattle.repo_holdings.specs.declared.changes.Change.{Change}
use Rattle.repo_holdings.specs.declared.changes.Change.TheVariants.{Nothing, Lists, Removes}
use Rattle.repo_holdings.specs.declared.record_summary.RecordSummary.{RecordSummary}
use Rattle.repo_holdings.specs.declared.record_summary.RecordSummary.TheVariants.{Object, Withdrawal}
use Rattle.repo_holdings.specs.Records.{Packet}
use Rattle.repo_holdings.specs.Listed.{stated_at, listing_at, whole_at, is_withdrawn}
use Rattle.repo_holdings.specs.Noted.{NotesState}
use Rattle.repo_holdings.specs.Gaining.{summary_of}

-- the catalogue after a change
abbrev pub changed : Change → List Entry → List Entry
changed Nothing entries = entries
changed (Lists e) entries = with_entry e entries
changed (Removes publisher seq) entries = without (publisher, seq) entries

-- the entries that wait to be listed, with the entry that a change lists, if it lists one
abbrev pub fresh_with : List Entry → Change → List Entry
fresh_with fresh Nothing = fresh
fresh_with fresh (Lists e) = fresh ++ e ∷ []
fresh_with fresh (Removes publisher seq) = fresh

-- the publications that wait to be removed, with the publication that a change removes, if it removes one
abbrev pub gone_with : List Pair → Change → List Pair
gone_with gone Nothing = gone
gone_with gone (Lists e) = gone
gone_with gone (Removes publisher seq) = gone ++ (publisher, seq) ∷ []

-- whether the summary of the publication `pair` says that it withdraws `q`
abbrev pub withdraws_too : Pair → Option RecordSummary → Pair → Bool
withdraws_too pair None q = false
withdraws_too pair (Some (Object shape name)) q = false
withdraws_too pair (Some (Withdrawal seq)) q = eq_by_cmp pair_cmp q (pair.0, seq)

-- the change that lists an entry; no change where there is none
abbrev pub lists_entry : Option Entry → Change
lists_entry None = Nothing
lists_entry (Some e) = Lists e

-- the change by a newly stored part of the publication `pair`, with the summary if the part is a record: what a
-- withdrawal withdraws is removed, unless it is in `withdrawn` already; otherwise `entry` is listed, if there is one
abbrev pub change_by : List Pair → Pair → Option RecordSummary → Option Entry → Change
change_by withdrawn pair None entry = lists_entry entry
change_by withdrawn pair (Some (Object shape name)) entry = lists_entry entry
change_by withdrawn pair (Some (Withdrawal seq)) entry =
    if contains pair_cmp withdrawn (pair.0, seq) then Nothing else Removes pair.0 seq

-- `said` is the summary that the stored record of `pair` gives, or `None`, and then the notes have the name of the
-- object; the publications that are withdrawn are those in the notes and the one that `said` withdraws
pub record IsNewSummary (pair : Pair) (said : Option RecordSummary) (notes : NotesState)
    (packets : List Packet) : Type 0 where
  pub summary : IfSome said (λ x. option_map summary_of (stated_at packets pair) ≡ Some x)
  pub named : said ≡ None → IsSomeAnd (listing_at packets pair)
      (λ l. value_of pair_cmp notes.names pair ≡ Some l.name)
  pub withdrawn : (q : Pair)
      → (withdraws_too pair said q || contains pair_cmp notes.withdrawn q) ≡ is_withdrawn packets q

-- the notes after a part of `pair` was newly stored: the publications that are withdrawn, the object's name as long as
-- the object is not stored whole, and the names of other publications as before
pub record AreNotedWith (pair : Pair) (packets : List Packet) (old new : NotesState) : Type 0 where
  pub withdrawn : (q : Pair) → contains pair_cmp new.withdrawn q ≡ is_withdrawn packets q
  pub name : (l : Listed) → listing_at packets pair ≡ Some l → whole_at packets pair ≡ None
      → value_of pair_cmp new.names pair ≡ Some l.name
  pub others : (q : Pair) → eq_by_cmp pair_cmp pair q ≡ false
      → value_of pair_cmp new.names q ≡ value_of pair_cmp old.names q
