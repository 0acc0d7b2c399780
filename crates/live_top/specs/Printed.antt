-- What the lines of members that ran say.
use Rattle.std.specs.Prelude.{ℕ, ◌≡◌, ◌≢◌, ⊤, List, [], length, Some, slice_get}
use Rattle.std.specs.List.{All}
use Rattle.repo_holdings.specs.Listed.{member_catalogue}
use Rattle.script_report.specs.Labels.{label_at}
use Rattle.live_member.specs.Meanings.{Meaning}
use Rattle.live_member.specs.declared.event.LiveEvent.{LiveEvent}
use Rattle.live_member.specs.declared.event.LiveEvent.TheVariants as event
use Rattle.live_member.specs.declared.event.LiveReply.{LiveReply}
use Rattle.live_member.specs.declared.event.LiveReply.TheVariants as reply
use Rattle.live_member.specs.declared.event.LiveEntry.{LiveEntry}
use Rattle.live_settle.specs.declared.ran.Ran.{Ran}
use Rattle.live_settle.specs.Rans.{AreRans}
use Rattle.live_top.specs.Journals.{entry_line}

-- ---- lines

-- The entry has one of the forms that are printed: its line isn't empty.
abbrev pub HasLine : LiveEntry → Type 0
HasLine e = (labels : List (List ℕ)) → entry_line labels e ≢ []

-- Each entry of each journal has a line that isn't empty.
abbrev pub HaveLines : List Ran → Type 0
HaveLines rans = All (λ r. All HasLine r.journal.items) rans

-- Where members ran, each entry of their journals has a line that isn't empty.
abbrev pub JournalsArePrintedWhole : Type 0
JournalsArePrintedWhole = (t : Meaning) (rans : List Ran) → AreRans t rans → HaveLines rans

-- ---- publishers

-- In any list of labels with one for each member of the group, there is a label for the number `p`.
abbrev pub HasLabel : Meaning → ℕ → Type 0
HasLabel t p =
    (labels : List (List ℕ)) → length labels ≡ length t.lists → slice_get labels p ≡ Some (label_at labels p)

-- The publisher of the part that an entry names is a member. An entry names a part that was claimed or lost, or whose
-- packet a fetcher was given, whether it was kept or refused.
abbrev pub PartIsOfMember : Meaning → LiveEvent → LiveReply → Type 0
PartIsOfMember t (event.Claim f) (reply.Claimed part) = HasLabel t part.publisher
PartIsOfMember t (event.Accept f part) how = HasLabel t part.publisher
PartIsOfMember t (event.Lose f) (reply.Lost part) = HasLabel t part.publisher
PartIsOfMember t _ _ = ⊤

-- The publishers that the entries of a member's journal and of its catalogue name are members.
pub record NamesMembers (t : Meaning) (r : Ran) : Type 0 where
  pub journal : All (λ e. PartIsOfMember t e.event e.reply) r.journal.items
  pub catalogue : All (λ e. HasLabel t e.publisher) (member_catalogue r.member.store)

-- Where members ran, the publishers of all parts that their journals name, and of all objects that their catalogues
-- list, are members of the group, so that each is printed by its label.
abbrev pub PublishersAreMembers : Type 0
PublishersAreMembers = (t : Meaning) (rans : List Ran) → AreRans t rans → All (NamesMembers t) rans
