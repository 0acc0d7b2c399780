-- The outcome of an event, and the same outcome as a value of the one type `Reply`.
use Rattle.std.specs.Prelude.{ℕ, Bool, List, Option, Some, None, Result, Ok, Err, if◌then◌else◌}
use Rattle.repo_plan.specs.declared.part.Part.{Part}
use Rattle.svs_sync.specs.declared.fired.Fired.{Fired}
use Rattle.svs_sync.specs.declared.mode.Mode.{Mode}
use Rattle.repo_catalog.specs.declared.entry.Entry.{Entry}
use Rattle.repo_command.specs.declared.answer.Answer.{Answer}
use Rattle.repo_process.specs.Processes.{BlockState}
use Rattle.repo_process.specs.Processes.BlockState.{Unknown, Already, Waiting, Whole}
use Rattle.group_model.specs.Events.{SyncInterest, Found, Event}
use Rattle.svs_sync.specs.declared.fired.Fired.TheVariants as fired

-- The totals of a catalogue: entries, segments and octets.
pub record CatalogueTotals : Type 0 where
  pub entries : ℕ
  pub segments : ℕ
  pub octets : ℕ

-- A publication: its number, how many segments it has, and the number of the sync Interest that reports it.
pub record PublishOutcome : Type 0 where
  pub seq : ℕ
  pub segments : ℕ
  pub sync : ℕ

-- A withdrawal: its number, and that of the sync Interest that reports it.
pub record WithdrawOutcome : Type 0 where
  pub seq : ℕ
  pub sync : ℕ

-- What a timer says, and the number of the next sync Interest.
pub record FireOutcome : Type 0 where
  pub timer : Fired
  pub sync : ℕ

-- A fetch: the parts that were tried, those that were kept, and the attempts over all of them.
pub record FetchOutcome : Type 0 where
  pub planned : ℕ
  pub kept : ℕ
  pub attempts : ℕ

-- A settle: the sync Interests that were sent, and the parts that members gained.
pub record SettleOutcome : Type 0 where
  pub syncs : ℕ
  pub kept : ℕ

-- The state of a block, and the numbers of the next publication and of the next sync Interest.
pub record BlockOutcome : Type 0 where
  pub state : BlockState
  pub seq : ℕ
  pub sync : ℕ

-- What was counted since the beginning.
pub record TrafficOutcome : Type 0 where
  pub syncs : ℕ
  pub delivered : ℕ
  pub attempts : ℕ
  pub parts : ℕ
  pub octets : ℕ

-- The outcome of octets that a member hears. If they are a sync Interest, it is the member's mode afterwards; or how
-- many publications the member has made, and the greater number that the vector has of it.
abbrev pub HearOutcome : Option SyncInterest → Type 0
HearOutcome None = Unit {0}
HearOutcome (Some sync) = Result Mode (ℕ × ℕ)

-- The outcome of each event.
abbrev pub OutcomeOf : Event → Type 0
OutcomeOf (Event.Publish j o) = PublishOutcome
OutcomeOf (Event.Withdraw j seq) = WithdrawOutcome
OutcomeOf (Event.Deliver k j) = Mode
OutcomeOf (Event.Sync k) = SyncInterest
OutcomeOf (Event.Advance ms) = ℕ
OutcomeOf (Event.Fire j) = FireOutcome
OutcomeOf (Event.Restart j) = Unit {0}
OutcomeOf (Event.Vector j) = List ℕ
OutcomeOf (Event.Catalogue j) = List Entry
OutcomeOf (Event.Claim j f) = Option Part
OutcomeOf (Event.Lose j f) = Option Part
OutcomeOf (Event.Answer j f q) = Bool
OutcomeOf (Event.Fetch j tries loss) = FetchOutcome
OutcomeOf Event.Settle = SettleOutcome
OutcomeOf (Event.Dump j t) = Bool
OutcomeOf (Event.Hear j read) = HearOutcome read
OutcomeOf (Event.Ask j find) = Found
OutcomeOf (Event.Feed j f read) = Bool
OutcomeOf (Event.Order j read) = Answer
OutcomeOf (Event.Issue j client command) = Answer
OutcomeOf (Event.Block j process index content) = BlockOutcome
OutcomeOf Event.Summary = List CatalogueTotals
OutcomeOf Event.Traffic = TrafficOutcome

-- ---- outcomes as values of one type

-- The reply to an event.
pub data Reply : Type 0 where
  Published : (seq segments sync : ℕ) → Reply
  Withdrawn : (seq withdrawn sync : ℕ) → Reply
  Delivered : (mode : Mode) → Reply
  Synced : (sync : SyncInterest) → Reply
  Advanced : (time : ℕ) → Reply
  Early : Reply
  Quiet : Reply
  Sent : (sync : ℕ) → Reply
  Restarted : Reply
  Numbers : (vector : List ℕ) → Reply
  Entries : (entries : List Entry) → Reply
  Claimed : (part : Option Part) → Reply
  Lost : (part : Option Part) → Reply
  Answered : (kept : Bool) → Reply
  Fetched : (planned kept attempts : ℕ) → Reply
  Settled : (syncs kept : ℕ) → Reply
  Dumped : (part : Option Part) → Reply
  Heard : (mode : Mode) → Reply
  HearRefused : Reply
  OwnNumberAhead : (own outcome : ℕ) → Reply
  Asked : (found : Found) → Reply
  Fed : (kept : Bool) → Reply
  Commanded : (answer : Answer) → Reply
  NoBlock : Reply  -- no such process, or no such index
  BlockKept : Reply
  BlockLate : Reply  -- the process was published before
  BlockPublished : (seq sync : ℕ) → Reply
  Summed : (totals : List CatalogueTotals) → Reply
  Counted : (syncs delivered attempts parts octets : ℕ) → Reply

-- The reply of a timer.
abbrev pub fire_reply : ℕ → Fired → Reply
fire_reply sync fired.Early = Reply.Early
fire_reply sync fired.Quiet = Reply.Quiet
fire_reply sync fired.Send = Reply.Sent sync

-- The reply to a sync Interest that passed its checks.
abbrev pub heard_reply : Result Mode (ℕ × ℕ) → Reply
heard_reply (Ok mode) = Reply.Heard mode
heard_reply (Err ahead) = Reply.OwnNumberAhead ahead.0 ahead.1

-- The reply to octets that are read as a sync Interest, or refused.
abbrev pub hear_reply : (read : Option SyncInterest) → HearOutcome read → Reply
hear_reply None heard = Reply.HearRefused
hear_reply (Some sync) heard = heard_reply heard

-- The reply to a block.
abbrev pub block_reply : (seq sync : ℕ) → BlockState → Reply
block_reply seq sync Unknown = Reply.NoBlock
block_reply seq sync Already = Reply.BlockLate
block_reply seq sync (Waiting p) = Reply.BlockKept
block_reply seq sync (Whole p) = Reply.BlockPublished seq sync

-- The outcome of an event, as a reply.
abbrev pub reply_of : (e : Event) → OutcomeOf e → Reply
reply_of (Event.Publish j o) outcome = Reply.Published outcome.seq outcome.segments outcome.sync
reply_of (Event.Withdraw j seq) outcome = Reply.Withdrawn outcome.seq seq outcome.sync
reply_of (Event.Deliver k j) mode = Reply.Delivered mode
reply_of (Event.Sync k) sync = Reply.Synced sync
reply_of (Event.Advance ms) time = Reply.Advanced time
reply_of (Event.Fire j) outcome = fire_reply outcome.sync outcome.timer
reply_of (Event.Restart j) outcome = Reply.Restarted
reply_of (Event.Vector j) vector = Reply.Numbers vector
reply_of (Event.Catalogue j) entries = Reply.Entries entries
reply_of (Event.Claim j f) part = Reply.Claimed part
reply_of (Event.Lose j f) part = Reply.Lost part
reply_of (Event.Answer j f q) kept = Reply.Answered kept
reply_of (Event.Fetch j tries loss) outcome = Reply.Fetched outcome.planned outcome.kept outcome.attempts
reply_of Event.Settle outcome = Reply.Settled outcome.syncs outcome.kept
reply_of (Event.Dump j t) held = Reply.Dumped (if held then Some t else None)
reply_of (Event.Hear j read) heard = hear_reply read heard
reply_of (Event.Ask j find) found = Reply.Asked found
reply_of (Event.Feed j f read) kept = Reply.Fed kept
reply_of (Event.Order j read) answer = Reply.Commanded answer
reply_of (Event.Issue j client command) answer = Reply.Commanded answer
reply_of (Event.Block j process index content) outcome = block_reply outcome.seq outcome.sync outcome.state
reply_of Event.Summary totals = Reply.Summed totals
reply_of Event.Traffic outcome = Reply.Counted outcome.syncs outcome.delivered outcome.attempts outcome.parts
    outcome.octets
