-- The lines of journals and catalogues, under the labels of the members.
use Rattle.std.specs.Prelude.{ℕ, List, [], ◌∷◌, ◌++◌, map, length, codes}
use Rattle.std.specs.List.{flat_map}
use Rattle.repo_plan.specs.declared.part.Part.{Part}
use Rattle.repo_catalog.specs.declared.entry.Entry.{Entry}
use Rattle.repo_holdings.specs.Listed.{member_catalogue}
use Rattle.script_report.specs.Texts.{journal_text, journal_publish_text, journal_hear_text, journal_part_text}
use Rattle.script_report.specs.Texts.{journal_fetcher_text, journal_feed_text, catalogue_text}
use Rattle.live_member.specs.declared.event.LiveEvent.{LiveEvent}
use Rattle.live_member.specs.declared.event.LiveEvent.TheVariants as event
use Rattle.live_member.specs.declared.event.LiveReply.{LiveReply}
use Rattle.live_member.specs.declared.event.LiveReply.TheVariants as reply
use Rattle.live_member.specs.declared.event.LiveEntry.{LiveEntry}
use Rattle.live_settle.specs.declared.ran.Ran.{Ran}
use Rattle.script_report.specs.Labels.{label_at, publisher_label}

-- ---- an entry

-- The line of a fetcher and of a part that it claimed or lost.
abbrev pub part_line : List (List ℕ) → List ℕ → ℕ → Part → List ℕ
part_line labels verb f t = journal_part_text verb f (label_at labels t.publisher) t.seq t.part

-- The line of a fetcher that was given the packet of the part `t`, with what became of the packet (`how`).
abbrev pub feed_line : List (List ℕ) → ℕ → Part → List ℕ → List ℕ
feed_line labels f t how = journal_feed_text f (label_at labels t.publisher) t.seq t.part how

-- The line of an entry. A journal that replays has entries of these forms alone; an entry of any other form has no
-- line.
abbrev pub line_of_entry : List (List ℕ) → LiveEvent → LiveReply → List ℕ
line_of_entry labels event.Publish (reply.Published seq) = journal_publish_text seq
line_of_entry labels (event.Hear octets) reply.Steady = journal_hear_text octets (codes "steady")
line_of_entry labels (event.Hear octets) reply.Suppressed = journal_hear_text octets (codes "suppressed")
line_of_entry labels (event.Hear octets) reply.Refused = journal_hear_text octets (codes "refused")
line_of_entry labels (event.Claim f) (reply.Claimed t) = part_line labels (codes "claim") f t
line_of_entry labels (event.Claim f) reply.NoPart = journal_fetcher_text (codes "claim") f (codes "none")
line_of_entry labels (event.Claim f) reply.Refused = journal_fetcher_text (codes "claim") f (codes "refused")
line_of_entry labels (event.Accept f t) reply.Kept = feed_line labels f t (codes "kept")
line_of_entry labels (event.Accept f t) reply.Refused = feed_line labels f t (codes "refused")
line_of_entry labels (event.Lose f) (reply.Lost t) = part_line labels (codes "lose") f t
line_of_entry labels (event.Lose f) reply.Refused = journal_fetcher_text (codes "lose") f (codes "refused")
line_of_entry labels _ _ = []

-- The line of an entry of a journal.
abbrev pub entry_line : List (List ℕ) → LiveEntry → List ℕ
entry_line labels e = line_of_entry labels e.event e.reply

-- ---- a member

-- The journal of a member: its label and the number of its entries, and then a line for each entry.
abbrev pub journal_lines : List (List ℕ) → List ℕ → List LiveEntry → List ℕ
journal_lines labels label entries =
    journal_text label (length entries) ++ flat_map (entry_line labels) entries

-- The catalogue of a member, as a script prints it.
abbrev pub catalogue_lines : List (List ℕ) → List ℕ → List Entry → List ℕ
catalogue_lines labels label entries =
    catalogue_text label (length entries) (map (publisher_label labels) entries) entries

-- ---- all members

-- The journal of each member, under the member's own label.
unfoldable pub journals : List (List ℕ) → List (List ℕ) → List Ran → List ℕ
journals labels [] rans = []
journals labels (own ∷ others) [] = []
journals labels (own ∷ others) (r ∷ rans) =
    journal_lines labels own r.journal.items ++ journals labels others rans

-- The catalogue of each member, under the member's own label.
unfoldable pub catalogues : List (List ℕ) → List (List ℕ) → List Ran → List ℕ
catalogues labels [] rans = []
catalogues labels (own ∷ others) [] = []
catalogues labels (own ∷ others) (r ∷ rans) =
    catalogue_lines labels own (member_catalogue r.member.store) ++ catalogues labels others rans

-- The journals of all members, in order, and then their catalogues.
abbrev pub live_text : List (List ℕ) → List Ran → List ℕ
live_text labels rans = journals labels labels rans ++ catalogues labels labels rans
