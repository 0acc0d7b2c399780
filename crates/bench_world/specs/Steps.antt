-- When an event can be carried out, the errors of events and steps, and the members that reports name.
use Rattle.std.specs.Prelude.{ℕ, ◌≡◌, ◌+◌, ◌<◌, ◌≤◌, IsTrue, length, Option, Some, None}
use Rattle.std.specs.List.{All}
use Rattle.svs_vector.specs.declared.vector_fault.VectorFault.{VectorFault}
use Rattle.svs_vector.specs.declared.vector_fault.VectorFault.TheVariants as vector
use Rattle.svs_sync.specs.declared.sync_refusal.SyncRefusal.{SyncRefusal}
use Rattle.svs_sync.specs.declared.sync_refusal.SyncRefusal.TheVariants as sync
use Rattle.sorted_lists.specs.Range.{numbers_from}
use Rattle.repo_plan.specs.Calls.{IsFetcher}
use Rattle.repo_object.specs.Objects.{is_object_name, IsContent}
use Rattle.repo_object.specs.Cuts.{pieces}
use Rattle.group_model.specs.Refusals.{Refusal}
use Rattle.repo_member.specs.declared.refusals.HearRefusal.{HearRefusal}
use Rattle.repo_member.specs.declared.refusals.HearRefusal.TheVariants as hear
use Rattle.bench_world.specs.declared.event.EventError.{EventError}
use Rattle.bench_world.specs.declared.event.EventError.TheVariants as fault
use Rattle.bench_world.specs.declared.event.StepFault.{StepFault}
use Rattle.bench_world.specs.declared.event.StepFault.TheVariants as step
use Rattle.bench_world.specs.EventValues.{EventValue, ReportValue}

-- The event can be carried out in a group of `n` members: the members and fetchers that it names exist, and its values
-- are within their limits.
abbrev pub EventInRange : ℕ → EventValue → Type 0
EventInRange n (EventValue.Publish m name size content) =
    (m < n) × IsTrue (is_object_name name) × (1 ≤ size) × (size ≤ 8000) × (length (pieces size content) ≤ 20000)
EventInRange n (EventValue.Withdraw m s) = (m < n) × (s < 65536)
EventInRange n (EventValue.Deliver k m) = m < n
EventInRange n (EventValue.Sync k) = Unit {0}
EventInRange n (EventValue.Advance ms) = ms ≤ 1000000000
EventInRange n (EventValue.Fire m) = m < n
EventInRange n (EventValue.Restart m) = m < n
EventInRange n (EventValue.Vector m) = m < n
EventInRange n (EventValue.Catalogue m) = m < n
EventInRange n (EventValue.Claim m f) = (m < n) × IsFetcher f
EventInRange n (EventValue.Lose m f) = (m < n) × IsFetcher f
EventInRange n (EventValue.Answer m f q) = (m < n) × IsFetcher f × (q < n)
EventInRange n (EventValue.Fetch m workers tries loss) =
    (m < n) × (1 ≤ workers) × (workers ≤ 16) × (1 ≤ tries) × (tries ≤ 16)
EventInRange n (EventValue.Settle workers) = (1 ≤ workers) × (workers ≤ 16)
EventInRange n (EventValue.Dump m p s x) = (m < n) × (s < 65536) × (x < 65536)
EventInRange n (EventValue.Hear m octets) = m < n
EventInRange n (EventValue.Ask m octets) = m < n
EventInRange n (EventValue.Feed m f octets) = (m < n) × IsFetcher f
EventInRange n (EventValue.Order m octets) = m < n
EventInRange n (EventValue.Insert m client name first last) =
    (m < n) × IsTrue (is_object_name name) × (first ≤ last) × (last < first + 200)
EventInRange n (EventValue.Block m process index content) = (m < n) × IsContent content
EventInRange n (EventValue.Status m client process) = m < n
EventInRange n (EventValue.Delete m client name) = (m < n) × IsTrue (is_object_name name)
EventInRange n EventValue.Summary = Unit {0}
EventInRange n EventValue.Traffic = Unit {0}

-- If the event names a client, it is one of `n` clients.
abbrev pub NamesClient : ℕ → EventValue → Type 0
NamesClient n (EventValue.Insert m client name first last) = client < n
NamesClient n (EventValue.Status m client process) = client < n
NamesClient n (EventValue.Delete m client name) = client < n
NamesClient n _ = Unit {0}

-- The error of an event that the group refuses.
abbrev pub fault_of : Refusal → EventError
fault_of Refusal.NoSuchPacket = fault.NoSuchPacket
fault_of Refusal.FetcherBusy = fault.FetcherBusy
fault_of Refusal.FetcherIdle = fault.FetcherIdle
fault_of Refusal.Foreign = fault.Foreign
fault_of Refusal.NumbersSpent = fault.NumbersSpent
fault_of Refusal.NoSuchNumber = fault.NoSuchNumber

-- Memory ran out, or the error is the one for the group's refusal of the event.
abbrev pub IsFaultOf : Option Refusal → EventError → Type 0
IsFaultOf refusal fault.NoMemory = Unit {0}
IsFaultOf None _ = ⊥
IsFaultOf (Some refusal) received = received ≡ fault_of refusal

-- Why a step was not made, by why its event was not carried out: a refusal has the number that the report prints.
abbrev pub step_fault : EventError → StepFault
step_fault fault.NoSuchPacket = step.Refused 5
step_fault fault.FetcherBusy = step.Refused 6
step_fault fault.FetcherIdle = step.Refused 7
step_fault fault.NumbersSpent = step.Refused 8
step_fault fault.NoSuchNumber = step.Refused 14
step_fault fault.Foreign = step.Foreign
step_fault fault.NoMemory = step.NoMemory

-- Memory ran out, or the fault is the one for the group's refusal of the event.
abbrev pub IsStepFaultOf : Option Refusal → StepFault → Type 0
IsStepFaultOf refusal step.NoMemory = Unit {0}
IsStepFaultOf None _ = ⊥
IsStepFaultOf (Some refusal) made = made ≡ step_fault (fault_of refusal)

-- ---- members that are named

-- A member that the fault of a vector names is below `n`, the number of members. `NoMemory` is excluded.
abbrev pub FaultNamesMember : ℕ → VectorFault → Type 0
FaultNamesMember n (vector.BadVector at) = Unit {0}
FaultNamesMember n (vector.NumberTooLarge member number) = member < n
FaultNamesMember n vector.NoMemory = ⊥

-- A member that the refusal of a sync Interest names is below `n`, the number of members. `NoMemory` is excluded.
abbrev pub SyncNamesMember : ℕ → SyncRefusal → Type 0
SyncNamesMember n (sync.Vector fault) = FaultNamesMember n fault
SyncNamesMember n sync.NoMemory = ⊥
SyncNamesMember n _ = Unit {0}

-- A member that the refusal of heard octets names is below `n`, the number of members. `NoMemory` is excluded.
abbrev pub HearNamesMember : ℕ → HearRefusal → Type 0
HearNamesMember n (hear.Sync refusal) = SyncNamesMember n refusal
HearNamesMember n (hear.OwnNumberAhead own received) = Unit {0}
HearNamesMember n hear.NoMemory = ⊥

-- Each number that stands for a member in a report is below `n`, the number of members. A report that lists all members
-- has them in order, with a number or sums for each.
abbrev pub NamesInRange : ℕ → ReportValue → Type 0
NamesInRange n ReportValue.Nothing = Unit {0}
NamesInRange n (ReportValue.Publish m seq segments sync) = m < n
NamesInRange n (ReportValue.Withdraw m seq withdrawn sync) = m < n
NamesInRange n (ReportValue.DeliverSteady k m) = m < n
NamesInRange n (ReportValue.DeliverSuppressed k m) = m < n
NamesInRange n (ReportValue.Sync k octets) = Unit {0}
NamesInRange n (ReportValue.Advance now) = Unit {0}
NamesInRange n (ReportValue.FireEarly m) = m < n
NamesInRange n (ReportValue.FireQuiet m) = m < n
NamesInRange n (ReportValue.FireSent m k) = m < n
NamesInRange n (ReportValue.Restart m) = m < n
NamesInRange n (ReportValue.Vector m members numbers) = (members ≡ numbers_from 0 n) × (length numbers ≡ n) × (m < n)
NamesInRange n (ReportValue.Catalogue m count entries) = (m < n) × All (λ e. e.publisher < n) entries
NamesInRange n (ReportValue.ClaimPart m f publisher seq x) = (m < n) × (publisher < n)
NamesInRange n (ReportValue.ClaimNone m f) = m < n
NamesInRange n (ReportValue.Lose m f publisher seq x) = (m < n) × (publisher < n)
NamesInRange n (ReportValue.AnswerKept m f) = m < n
NamesInRange n (ReportValue.AnswerNone m f) = m < n
NamesInRange n (ReportValue.Fetch m planned kept attempts) = m < n
NamesInRange n (ReportValue.Settle syncs kept) = Unit {0}
NamesInRange n (ReportValue.DumpHex m octets) = m < n
NamesInRange n (ReportValue.DumpNone m) = m < n
NamesInRange n (ReportValue.HearSteady m) = m < n
NamesInRange n (ReportValue.HearSuppressed m) = m < n
NamesInRange n (ReportValue.HearRefused m refusal) = (m < n) × HearNamesMember n refusal
NamesInRange n (ReportValue.AskFound m octets) = m < n
NamesInRange n (ReportValue.AskNone m) = m < n
NamesInRange n (ReportValue.AskRefused m refusal) = m < n
NamesInRange n (ReportValue.FeedKept m f) = m < n
NamesInRange n (ReportValue.FeedRefused m f refusal) = m < n
NamesInRange n (ReportValue.Order m code process inserted deleted) = m < n
NamesInRange n (ReportValue.Insert m code process inserted deleted) = m < n
NamesInRange n (ReportValue.Status m code process inserted deleted) = m < n
NamesInRange n (ReportValue.Delete m code process inserted deleted) = m < n
NamesInRange n (ReportValue.Block300 m) = m < n
NamesInRange n (ReportValue.Block404 m) = m < n
NamesInRange n (ReportValue.Block200 m) = m < n
NamesInRange n (ReportValue.BlockPublished m seq sync) = m < n
NamesInRange n (ReportValue.Summary members entries segments octets) =
    (members ≡ numbers_from 0 n) × (length entries ≡ n) × (length segments ≡ n) × (length octets ≡ n)
NamesInRange n (ReportValue.Traffic syncs delivered attempts parts octets) = Unit {0}
