-- Which events are refused, and which are foreign: octets that pass their checks and that nobody of the group made.
use Rattle.std.specs.Prelude.{ℕ, ◌≡◌, ◌<◌, ◌≤◌, Bool, not, List, [], ◌∷◌, length, Option, Some, None, Result, Ok, Err}
use Rattle.std.specs.Prelude.{nat_le, ◌==◌, ◌&&◌, if◌then◌else◌}
use Rattle.std.specs.List.{list_any}
use Rattle.std.specs.Str.{bytes_eq}
use Rattle.repo_plan.specs.declared.part.Part.{Part}
use Rattle.repo_process.specs.Processes.{BlockState}
use Rattle.repo_process.specs.Processes.BlockState.{Whole}
use Rattle.repo_command.specs.declared.command.Command.{Command}
use Rattle.group_model.specs.Publications.{has_unwithdrawn}
use Rattle.group_model.specs.Commands.{is_equal_command}
use Rattle.group_model.specs.Events.{SyncInterest, Response, Event}
use Rattle.group_model.specs.Events.Response.{Another}
use Rattle.group_model.specs.World.{World, Environment, member}
use Rattle.group_model.specs.Steps.{claim_at, response_from, response_read, exceeds_log, block_at, after_event}

-- Why an event is refused.
pub data Refusal : Type 0 where
  NoSuchPacket : Refusal
  FetcherBusy : Refusal
  FetcherIdle : Refusal
  Foreign : Refusal
  NumbersSpent : Refusal
  NoSuchNumber : Refusal

-- ---- foreign octets

-- A sync Interest of that sender with that vector was sent.
abbrev pub has_sent : World → SyncInterest → Bool
has_sent w sync = list_any (λ s. s.sender == sync.sender && bytes_eq s.vector sync.vector) w.sent

-- A client made this command for the member.
abbrev pub has_issued : World → ℕ → ℕ × Command → Bool
has_issued w j order =
    list_any (λ i. i.member == j && (i.client == order.0 && is_equal_command i.command order.1)) w.issued

-- ---- what refuses an event

-- The event is refused with `refusal`, unless `holds` is true.
abbrev pub unless : Bool → Refusal → Option Refusal
unless holds refusal = if holds then None else Some refusal

-- Sync Interests are numbered from 1.
abbrev pub unless_sent : World → ℕ → Option Refusal
unless_sent w k = unless (nat_le 1 k && nat_le k (length w.sent)) Refusal.NoSuchPacket

-- Refused where the fetcher claims a part.
abbrev pub if_busy : Option Part → Option Refusal
if_busy None = None
if_busy (Some t) = Some Refusal.FetcherBusy

-- Refused where the fetcher claims no part.
abbrev pub if_idle : Option Part → Option Refusal
if_idle None = Some Refusal.FetcherIdle
if_idle (Some t) = None

-- Refused where the fetcher claims no part, or where the packet passes its checks and isn't the publisher's.
abbrev pub if_idle_or_foreign : Option Part → Response → Option Refusal
if_idle_or_foreign None came = Some Refusal.FetcherIdle
if_idle_or_foreign (Some t) Another = Some Refusal.Foreign
if_idle_or_foreign (Some t) _ = None

-- A sync Interest that nobody sent is foreign, unless it reports more publications of the member than it made.
abbrev pub if_unsent : World → ℕ → Option SyncInterest → Option Refusal
if_unsent w j None = None
if_unsent w j (Some sync) = if exceeds_log w j sync then None else unless (has_sent w sync) Refusal.Foreign

-- A command that passes its checks and that its client didn't make for the member is foreign.
abbrev pub if_unissued : World → ℕ → Result (ℕ × Command) ℕ → Option Refusal
if_unissued w j (Ok order) = unless (has_issued w j order) Refusal.Foreign
if_unissued w j (Err code) = None

-- A publication is refused where the member has 65,535 of them.
abbrev pub if_spent : World → ℕ → Option Refusal
if_spent w j = unless (not (nat_le 65535 (length (member w j).log))) Refusal.NumbersSpent

-- A withdrawal is refused where the member has published no such object or has withdrawn it, or has 65,535
-- publications.
abbrev pub if_no_object_or_spent : World → ℕ → ℕ → Option Refusal
if_no_object_or_spent w j seq =
    if has_unwithdrawn (member w j).log seq then if_spent w j else Some Refusal.NoSuchNumber

-- A block that makes an insertion whole is refused where the member has 65,535 publications.
abbrev pub if_whole : World → ℕ → BlockState → Option Refusal
if_whole w j (Whole p) = if_spent w j
if_whole w j _ = None

-- What refuses an event, if something does.
abbrev pub refusal : Environment → World → Event → Option Refusal
refusal env w (Event.Publish j o) = if_spent w j
refusal env w (Event.Withdraw j seq) = if_no_object_or_spent w j seq
refusal env w (Event.Deliver k j) = unless_sent w k
refusal env w (Event.Sync k) = unless_sent w k
refusal env w (Event.Claim j f) = if_busy (claim_at w j f)
refusal env w (Event.Lose j f) = if_idle (claim_at w j f)
refusal env w (Event.Answer j f q) = if_idle_or_foreign (claim_at w j f) (response_from env w q (claim_at w j f))
refusal env w (Event.Hear j read) = if_unsent w j read
refusal env w (Event.Feed j f read) = if_idle_or_foreign (claim_at w j f) (response_read w read (claim_at w j f))
refusal env w (Event.Order j read) = if_unissued w j read
refusal env w (Event.Block j process index content) = if_whole w j (block_at w j process index content)
refusal env w _ = None

-- ---- events that are taken

-- The group has the member `j`, and the member has the fetcher `f`.
abbrev pub IsFetcherOf : World → ℕ → ℕ → Type 0
IsFetcherOf w j f = (j < length w.members) × (1 ≤ f) × (f ≤ 16)

-- The members and fetchers that an event names are there.
abbrev pub NamesThose : World → Event → Type 0
NamesThose w (Event.Publish j o) = j < length w.members
NamesThose w (Event.Withdraw j seq) = j < length w.members
NamesThose w (Event.Deliver k j) = j < length w.members
NamesThose w (Event.Sync k) = Unit {0}
NamesThose w (Event.Advance ms) = Unit {0}
NamesThose w (Event.Fire j) = j < length w.members
NamesThose w (Event.Restart j) = j < length w.members
NamesThose w (Event.Vector j) = j < length w.members
NamesThose w (Event.Catalogue j) = j < length w.members
NamesThose w (Event.Claim j f) = IsFetcherOf w j f
NamesThose w (Event.Lose j f) = IsFetcherOf w j f
NamesThose w (Event.Answer j f q) = IsFetcherOf w j f × (q < length w.members)
NamesThose w (Event.Fetch j tries loss) = j < length w.members
NamesThose w Event.Settle = Unit {0}
NamesThose w (Event.Dump j t) = j < length w.members
NamesThose w (Event.Hear j read) = j < length w.members
NamesThose w (Event.Ask j find) = j < length w.members
NamesThose w (Event.Feed j f read) = IsFetcherOf w j f
NamesThose w (Event.Order j read) = j < length w.members
NamesThose w (Event.Issue j client command) = j < length w.members
NamesThose w (Event.Block j process index content) = j < length w.members
NamesThose w Event.Summary = Unit {0}
NamesThose w Event.Traffic = Unit {0}

-- An event that is not refused, of members and fetchers that are there.
pub record EventIsTaken (env : Environment) (w : World) (e : Event) : Type 0 where
  pub named : NamesThose w e
  pub taken : refusal env w e ≡ None

-- Each event of a list is taken in the group as it is then.
abbrev pub EventsAreTaken : Environment → World → List Event → Type 0
EventsAreTaken env w [] = Unit {0}
EventsAreTaken env w (e ∷ es) = EventIsTaken env w e × EventsAreTaken env (after_event env w e) es
