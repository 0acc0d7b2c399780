-- What stands under a member's lock.
use Rattle.std.specs.Prelude.{ℕ, ◌≡◌, ◌+◌, ◌≤◌, ⊤, List, [], ◌++◌, length, slice_index}
use Rattle.std.specs.List.{All}
use Rattle.repo_object.specs.Objects.{NamedContents}
use Rattle.repo_member.specs.MemberState.{MemberState, initial_member}
use Rattle.repo_member.specs.InGroup.{AreLogs, in_group}
use Rattle.repo_member.specs.ConsistentMembers.{IsConsistentMember}
use Rattle.group_model.specs.Sound.{IsPublishedPart}
use Rattle.live_member.specs.declared.event.LiveEvent.{LiveEvent}
use Rattle.live_member.specs.declared.event.LiveEvent.TheVariants as event
use Rattle.live_member.specs.declared.event.LiveEntry.{LiveEntry}
use Rattle.live_member.specs.Meanings.{Meaning, objects_of, as_posts, whole_logs, logs_at, IsWithinLimits}
use Rattle.live_member.specs.Replay.{Replays}

-- A member, its journal, and the objects that it is still to publish.
pub record Living : Type 0 where
  pub state : MemberState
  pub journal : List LiveEntry
  pub unpublished : List NamedContents

-- A member with its journal and the objects that it is still to publish.
abbrev pub living : MemberState → List LiveEntry → List NamedContents → Living
living state journal unpublished = record { state = state; journal = journal; unpublished = unpublished }

-- The initial state of the member `j`.
abbrev pub initial_live_member : Meaning → ℕ → MemberState
initial_live_member t j = initial_member (length t.lists) j 0 (slice_index t.draws j)

-- The journal, replayed from the initial state of the member `a`, gives the replies that it has and ends in `a`.
abbrev pub ReplaysTo : Meaning → List LiveEntry → MemberState → Type 0
ReplaysTo t journal a = Replays t a.number journal (in_group (initial_live_member t a.number)) (in_group a)

-- If the event gives a fetcher a packet, taken or refused, this is of a part of a publication of the lists.
abbrev pub IsOfPublishedPart : Meaning → LiveEvent → Type 0
IsOfPublishedPart t (event.Accept f part) = IsPublishedPart (whole_logs t) part
IsOfPublishedPart t _ = ⊤

-- Each packet that a fetcher was given in an entry of the journal is of a part of a publication of the lists.
abbrev pub AreOfPublishedParts : Meaning → List LiveEntry → Type 0
AreOfPublishedParts t journal = All (λ e. IsOfPublishedPart t e.event) journal

-- The group is within its limits. The journal replays to the member, and each packet in it is of a part of the lists.
-- The member's log, followed by its unpublished objects, is its list. In a group whose other members have published
-- their whole lists, the logs are such as a group can have, and the member is consistent with them. It has deleted
-- nothing. It has used at most one draw more than its journal has entries, and these are at most `most`.
pub record IsLive (t : Meaning) (most : ℕ) (l : Living) : Type 0 where
  pub within : IsWithinLimits t
  pub replays : ReplaysTo t l.journal l.state
  pub brought : AreOfPublishedParts t l.journal
  pub list : l.state.log ++ as_posts l.unpublished ≡ as_posts (objects_of t l.state.number)
  pub logs : AreLogs t.group (logs_at t l.state.number l.state.log)
  pub consistent : IsConsistentMember t.group (logs_at t l.state.number l.state.log) l.state
  pub hidden : l.state.hidden ≡ []
  pub draws : l.state.machine.draws ≤ length l.journal + 1
  pub room : length l.journal ≤ most

-- `IsLive` holds, `number` is the member's number, and `draw` is the one value of its draws.
pub record IsKept (t : Meaning) (most number draw : ℕ) (l : Living) : Type 0 where
  pub its_number : number ≡ l.state.number
  pub its_draw : draw ≡ slice_index t.draws number
  pub live : IsLive t most l
