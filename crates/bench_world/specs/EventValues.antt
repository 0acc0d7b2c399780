-- The events of a step, and their reports, as values: names as lists of components, octets as lists of
-- numbers.
use Rattle.std.specs.Prelude.{ℕ, Bool, List, map, length, Option, Some, None, Result, Ok, Err}
use Rattle.std.specs.Prelude.{if◌then◌else◌}
use Rattle.ndn_name.specs.Names.{Component}
use Rattle.ndn_name.specs.declared.fault.PacketFault.{PacketFault}
use Rattle.ndn_data.specs.Data.{Data}
use Rattle.svs_sync.specs.declared.mode.Mode.{Mode}
use Rattle.svs_sync.specs.declared.mode.Mode.TheVariants.{Steady, Suppressed}
use Rattle.svs_sync.specs.declared.fired.Fired.{Fired}
use Rattle.svs_sync.specs.declared.fired.Fired.TheVariants as fired
use Rattle.svs_sync.specs.declared.sync_refusal.SyncRefusal.{SyncRefusal}
use Rattle.repo_plan.specs.declared.part.Part.{Part}
use Rattle.sorted_lists.specs.Range.{numbers_from}
use Rattle.repo_object.specs.declared.part_refusal.PartRefusal.{PartRefusal}
use Rattle.repo_object.specs.Cuts.{pieces}
use Rattle.repo_object.specs.Verdict.{ring_verdict}
use Rattle.repo_store.specs.Served.{served}
use Rattle.repo_catalog.specs.declared.entry.Entry.{Entry}
use Rattle.group_model.specs.Events as group
use Rattle.repo_command.specs.declared.command.Command.TheVariants as command
use Rattle.repo_command.specs.declared.answer.Answer.{Answer as CommandAnswer}
use Rattle.repo_process.specs.Processes.{BlockState}
use Rattle.repo_process.specs.Processes.BlockState.{Unknown, Already, Waiting, Whole}
use Rattle.group_model.specs.Replies.{HearOutcome, OutcomeOf}
use Rattle.group_model.specs.World.{Environment, World, member, logs}
use Rattle.group_model.specs.Steps.{claim_at, outcome}
use Rattle.repo_member.specs.declared.refusals.HearRefusal.{HearRefusal}
use Rattle.repo_member.specs.declared.refusals.HearRefusal.TheVariants as hear
use Rattle.repo_member.specs.Groups.{GroupKeys}
use Rattle.repo_member.specs.Verdicts.{sync_of, group_verdict}
use Rattle.repo_member.specs.Commanded.{order_of}
use Rattle.repo_member.specs.InGroup.{published_packet}
use Rattle.repo_member.specs.ConsistentMembers.{published_want, published_packets}
use Rattle.bench_world.specs.declared.event.Event.{Event}
use Rattle.bench_world.specs.declared.event.Event.TheVariants as is
use Rattle.bench_world.specs.declared.event.Happened.{Happened}
use Rattle.bench_world.specs.declared.event.Happened.TheVariants as was
use Rattle.bench_world.specs.Serving.{octets_response}
use Rattle.bench_world.specs.Readings.{read_as, finds}

-- ---- events

-- An event of a step, with the values that its line states. Members, clients, fetchers and packets are numbers.
pub data EventValue : Type 0 where
  Publish : (m : ℕ) (name : List Component) (size : ℕ) (content : List ℕ) → EventValue
  Withdraw : (m s : ℕ) → EventValue
  Deliver : (k m : ℕ) → EventValue
  Sync : (k : ℕ) → EventValue
  Advance : (ms : ℕ) → EventValue
  Fire : (m : ℕ) → EventValue
  Restart : (m : ℕ) → EventValue
  Vector : (m : ℕ) → EventValue
  Catalogue : (m : ℕ) → EventValue
  Claim : (m f : ℕ) → EventValue
  Lose : (m f : ℕ) → EventValue
  Answer : (m f q : ℕ) → EventValue
  Fetch : (m workers tries loss : ℕ) → EventValue
  Settle : (workers : ℕ) → EventValue
  Dump : (m p s x : ℕ) → EventValue
  Hear : (m : ℕ) (octets : List ℕ) → EventValue
  Ask : (m : ℕ) (octets : List ℕ) → EventValue
  Feed : (m f : ℕ) (octets : List ℕ) → EventValue
  Order : (m : ℕ) (octets : List ℕ) → EventValue
  Insert : (m client : ℕ) (name : List Component) (first last : ℕ) → EventValue
  Block : (m process index : ℕ) (content : List ℕ) → EventValue
  Status : (m client process : ℕ) → EventValue
  Delete : (m client : ℕ) (name : List Component) → EventValue
  Summary : EventValue
  Traffic : EventValue

-- The value of an event of the program.
abbrev pub event_value : Event → EventValue
event_value (is.Publish m name size content) = EventValue.Publish m name size content.items
event_value (is.Withdraw m s) = EventValue.Withdraw m s
event_value (is.Deliver k m) = EventValue.Deliver k m
event_value (is.Sync k) = EventValue.Sync k
event_value (is.Advance ms) = EventValue.Advance ms
event_value (is.Fire m) = EventValue.Fire m
event_value (is.Restart m) = EventValue.Restart m
event_value (is.Vector m) = EventValue.Vector m
event_value (is.Catalogue m) = EventValue.Catalogue m
event_value (is.Claim m f) = EventValue.Claim m f
event_value (is.Lose m f) = EventValue.Lose m f
event_value (is.Answer m f q) = EventValue.Answer m f q
event_value (is.Fetch m workers tries loss) = EventValue.Fetch m workers tries loss
event_value (is.Settle workers) = EventValue.Settle workers
event_value (is.Dump m p s x) = EventValue.Dump m p s x
event_value (is.Hear m octets) = EventValue.Hear m octets.items
event_value (is.Ask m octets) = EventValue.Ask m octets.items
event_value (is.Feed m f octets) = EventValue.Feed m f octets.items
event_value (is.Order m octets) = EventValue.Order m octets.items
event_value (is.Insert m client name first last) = EventValue.Insert m client name first last
event_value (is.Block m process index content) = EventValue.Block m process index content.items
event_value (is.Status m client process) = EventValue.Status m client process
event_value (is.Delete m client name) = EventValue.Delete m client name
event_value is.Summary = EventValue.Summary
event_value is.Traffic = EventValue.Traffic

-- The part with the publisher `p`, the sequence number `s` and the part number `x`.
abbrev pub part_at : ℕ → ℕ → ℕ → Part
part_at p s x = record { publisher = p; seq = s; part = x }

-- The model's event for an event: contents are cut into segments, octets are read, and workers are left out.
abbrev pub group_event : GroupKeys → EventValue → group.Event
group_event g (EventValue.Publish m name size content) =
    group.Event.Publish m (record { name = name; contents = pieces size content })
group_event g (EventValue.Withdraw m s) = group.Event.Withdraw m s
group_event g (EventValue.Deliver k m) = group.Event.Deliver k m
group_event g (EventValue.Sync k) = group.Event.Sync k
group_event g (EventValue.Advance ms) = group.Event.Advance ms
group_event g (EventValue.Fire m) = group.Event.Fire m
group_event g (EventValue.Restart m) = group.Event.Restart m
group_event g (EventValue.Vector m) = group.Event.Vector m
group_event g (EventValue.Catalogue m) = group.Event.Catalogue m
group_event g (EventValue.Claim m f) = group.Event.Claim m f
group_event g (EventValue.Lose m f) = group.Event.Lose m f
group_event g (EventValue.Answer m f q) = group.Event.Answer m f q
group_event g (EventValue.Fetch m workers tries loss) = group.Event.Fetch m tries loss
group_event g (EventValue.Settle workers) = group.Event.Settle
group_event g (EventValue.Dump m p s x) = group.Event.Dump m (part_at p s x)
group_event g (EventValue.Hear m octets) = group.Event.Hear m (read_as (group_verdict g octets))
group_event g (EventValue.Ask m octets) = group.Event.Ask m (finds g octets)
group_event g (EventValue.Feed m f octets) = group.Event.Feed m f (λ logs t. octets_response g logs t octets)
group_event g (EventValue.Order m octets) = group.Event.Order m (order_of g m octets)
group_event g (EventValue.Insert m client name first last) = group.Event.Issue m client (command.Insert name first last)
group_event g (EventValue.Block m process index content) = group.Event.Block m process index content
group_event g (EventValue.Status m client process) = group.Event.Issue m client (command.Check process)
group_event g (EventValue.Delete m client name) = group.Event.Issue m client (command.Delete name)
group_event g EventValue.Summary = group.Event.Summary
group_event g EventValue.Traffic = group.Event.Traffic

-- ---- what is reported

-- Each form of a reply, with its values. An event that is refused has no report.
pub data ReportValue : Type 0 where
  Nothing : ReportValue
  Publish : (m seq segments sync : ℕ) → ReportValue
  Withdraw : (m seq withdrawn sync : ℕ) → ReportValue
  DeliverSteady : (k m : ℕ) → ReportValue
  DeliverSuppressed : (k m : ℕ) → ReportValue
  Sync : (k : ℕ) (octets : List ℕ) → ReportValue
  Advance : (now : ℕ) → ReportValue
  FireEarly : (m : ℕ) → ReportValue
  FireQuiet : (m : ℕ) → ReportValue
  FireSent : (m k : ℕ) → ReportValue
  Restart : (m : ℕ) → ReportValue
  Vector : (m : ℕ) (members numbers : List ℕ) → ReportValue
  Catalogue : (m count : ℕ) (entries : List Entry) → ReportValue
  ClaimPart : (m f publisher seq x : ℕ) → ReportValue
  ClaimNone : (m f : ℕ) → ReportValue
  Lose : (m f publisher seq x : ℕ) → ReportValue
  AnswerKept : (m f : ℕ) → ReportValue
  AnswerNone : (m f : ℕ) → ReportValue
  Fetch : (m planned kept attempts : ℕ) → ReportValue
  Settle : (syncs kept : ℕ) → ReportValue
  DumpHex : (m : ℕ) (octets : List ℕ) → ReportValue
  DumpNone : (m : ℕ) → ReportValue
  HearSteady : (m : ℕ) → ReportValue
  HearSuppressed : (m : ℕ) → ReportValue
  HearRefused : (m : ℕ) (refusal : HearRefusal) → ReportValue
  AskFound : (m : ℕ) (octets : List ℕ) → ReportValue
  AskNone : (m : ℕ) → ReportValue
  AskRefused : (m : ℕ) (refusal : PacketFault) → ReportValue
  FeedKept : (m f : ℕ) → ReportValue
  FeedRefused : (m f : ℕ) (refusal : PartRefusal) → ReportValue
  Order : (m code : ℕ) (process inserted deleted : Option ℕ) → ReportValue
  Insert : (m code : ℕ) (process inserted deleted : Option ℕ) → ReportValue
  Status : (m code : ℕ) (process inserted deleted : Option ℕ) → ReportValue
  Delete : (m code : ℕ) (process inserted deleted : Option ℕ) → ReportValue
  Block300 : (m : ℕ) → ReportValue
  Block404 : (m : ℕ) → ReportValue
  Block200 : (m : ℕ) → ReportValue
  BlockPublished : (m seq sync : ℕ) → ReportValue
  Summary : (members entries segments octets : List ℕ) → ReportValue
  Traffic : (syncs delivered attempts parts octets : ℕ) → ReportValue

-- The value of a report of the program.
abbrev pub report_value : Happened → ReportValue
report_value (was.Publish m seq segments sync) = ReportValue.Publish m seq segments sync
report_value (was.Withdraw m seq withdrawn sync) = ReportValue.Withdraw m seq withdrawn sync
report_value (was.DeliverSteady k m) = ReportValue.DeliverSteady k m
report_value (was.DeliverSuppressed k m) = ReportValue.DeliverSuppressed k m
report_value (was.Sync k octets) = ReportValue.Sync k octets.items
report_value (was.Advance now) = ReportValue.Advance now
report_value (was.FireEarly m) = ReportValue.FireEarly m
report_value (was.FireQuiet m) = ReportValue.FireQuiet m
report_value (was.FireSent m k) = ReportValue.FireSent m k
report_value (was.Restart m) = ReportValue.Restart m
report_value (was.Vector m members numbers) = ReportValue.Vector m members.items numbers.items
report_value (was.Catalogue m count entries) = ReportValue.Catalogue m count entries.items
report_value (was.ClaimPart m f publisher seq x) = ReportValue.ClaimPart m f publisher seq x
report_value (was.ClaimNone m f) = ReportValue.ClaimNone m f
report_value (was.Lose m f publisher seq x) = ReportValue.Lose m f publisher seq x
report_value (was.AnswerKept m f) = ReportValue.AnswerKept m f
report_value (was.AnswerNone m f) = ReportValue.AnswerNone m f
report_value (was.Fetch m planned kept attempts) = ReportValue.Fetch m planned kept attempts
report_value (was.Settle syncs kept) = ReportValue.Settle syncs kept
report_value (was.DumpHex m octets) = ReportValue.DumpHex m octets.items
report_value (was.DumpNone m) = ReportValue.DumpNone m
report_value (was.HearSteady m) = ReportValue.HearSteady m
report_value (was.HearSuppressed m) = ReportValue.HearSuppressed m
report_value (was.HearRefused m refusal) = ReportValue.HearRefused m refusal
report_value (was.AskFound m octets) = ReportValue.AskFound m octets.items
report_value (was.AskNone m) = ReportValue.AskNone m
report_value (was.AskRefused m refusal) = ReportValue.AskRefused m refusal
report_value (was.FeedKept m f) = ReportValue.FeedKept m f
report_value (was.FeedRefused m f refusal) = ReportValue.FeedRefused m f refusal
report_value (was.Order m code process inserted deleted) = ReportValue.Order m code process inserted deleted
report_value (was.Insert m code process inserted deleted) = ReportValue.Insert m code process inserted deleted
report_value (was.Status m code process inserted deleted) = ReportValue.Status m code process inserted deleted
report_value (was.Delete m code process inserted deleted) = ReportValue.Delete m code process inserted deleted
report_value (was.Block300 m) = ReportValue.Block300 m
report_value (was.Block404 m) = ReportValue.Block404 m
report_value (was.Block200 m) = ReportValue.Block200 m
report_value (was.BlockPublished m seq sync) = ReportValue.BlockPublished m seq sync
report_value (was.Summary members entries segments octets) =
    ReportValue.Summary members.items entries.items segments.items octets.items
report_value (was.Traffic syncs delivered attempts parts octets) = ReportValue.Traffic syncs delivered attempts parts
    octets

-- ---- what is reported in a world

-- The report of a sync Interest that a member heard, by the mode of its sync state afterwards.
abbrev pub delivered_report : ℕ → ℕ → Mode → ReportValue
delivered_report k m Steady = ReportValue.DeliverSteady k m
delivered_report k m Suppressed = ReportValue.DeliverSuppressed k m

-- The report of a timer of member `m` that fired, where the next sync Interest has the number `k`.
abbrev pub fired_report : ℕ → ℕ → Fired → ReportValue
fired_report m k fired.Early = ReportValue.FireEarly m
fired_report m k fired.Quiet = ReportValue.FireQuiet m
fired_report m k fired.Send = ReportValue.FireSent m k

-- The report of a claim: the part that the fetcher claims now, or that there is none.
abbrev pub claim_report : ℕ → ℕ → Option Part → ReportValue
claim_report m f None = ReportValue.ClaimNone m f
claim_report m f (Some t) = ReportValue.ClaimPart m f t.publisher t.seq t.part

-- The report of a fetcher whose claim ends. If the fetcher claims nothing, the event is refused and has no report.
abbrev pub lost_report : ℕ → ℕ → Option Part → ReportValue
lost_report m f None = ReportValue.Nothing
lost_report m f (Some t) = ReportValue.Lose m f t.publisher t.seq t.part

-- The report of an answer for a claimed part: it was kept, or nothing was.
abbrev pub answer_report : ℕ → ℕ → Bool → ReportValue
answer_report m f kept = if kept then ReportValue.AnswerKept m f else ReportValue.AnswerNone m f

-- The report of the packet that a member holds of a part, if it holds one.
abbrev pub dump_report : ℕ → Option (List ℕ) → ReportValue
dump_report m None = ReportValue.DumpNone m
dump_report m (Some octets) = ReportValue.DumpHex m octets

-- The report of octets that a member took as a sync Interest, by the mode of its sync state afterwards.
abbrev pub mode_report : ℕ → Mode → ReportValue
mode_report m Steady = ReportValue.HearSteady m
mode_report m Suppressed = ReportValue.HearSuppressed m

-- The report of a sync Interest from outside: the mode of the sync state afterwards, or that it reports too many
-- publications of member `m`.
abbrev pub heard_as : ℕ → Result Mode (ℕ × ℕ) → ReportValue
heard_as m (Ok mode) = mode_report m mode
heard_as m (Err ahead) = ReportValue.HearRefused m (hear.OwnNumberAhead ahead.0 ahead.1)

-- The report of octets that member `m` hears: the refusal in the verdict on them, or else what the member made of the
-- sync Interest.
abbrev pub hear_report : (m : ℕ) (verdict : Result (ℕ × List ℕ) SyncRefusal) → HearOutcome (read_as verdict)
    → ReportValue
hear_report m (Err refusal) heard = ReportValue.HearRefused m (hear.Sync refusal)
hear_report m (Ok outcome) heard = heard_as m heard

-- The report of octets that ask a member as an Interest: the packet, that there is none, or their fault.
abbrev pub ask_report : ℕ → Result (Option (List ℕ)) PacketFault → ReportValue
ask_report m (Err fault) = ReportValue.AskRefused m fault
ask_report m (Ok None) = ReportValue.AskNone m
ask_report m (Ok (Some octets)) = ReportValue.AskFound m octets

-- The report of octets that are handed to a fetcher, by the verdict on them.
abbrev pub fed_report : ℕ → ℕ → Result Data PartRefusal → ReportValue
fed_report m f (Ok d) = ReportValue.FeedKept m f
fed_report m f (Err refusal) = ReportValue.FeedRefused m f refusal

-- The report of octets that are fed to a fetcher. If the fetcher claims nothing, the event is refused and has no
-- report.
abbrev pub feed_report : GroupKeys → World → ℕ → ℕ → List ℕ → Option Part → ReportValue
feed_report g w m f octets None = ReportValue.Nothing
feed_report g w m f octets (Some t) = fed_report m f
    (ring_verdict (published_want g (logs w) t) g.members.ring octets)

-- The report of the answer to a command.
abbrev pub order_report : ℕ → CommandAnswer → ReportValue
order_report m a = ReportValue.Order m a.code a.process a.inserted a.deleted

-- The report of an insertion that a client asked for.
abbrev pub insert_report : ℕ → CommandAnswer → ReportValue
insert_report m a = ReportValue.Insert m a.code a.process a.inserted a.deleted

-- The report of a check of an insertion process.
abbrev pub status_report : ℕ → CommandAnswer → ReportValue
status_report m a = ReportValue.Status m a.code a.process a.inserted a.deleted

-- The report of a deletion that a client asked for.
abbrev pub delete_report : ℕ → CommandAnswer → ReportValue
delete_report m a = ReportValue.Delete m a.code a.process a.inserted a.deleted

-- The report of a block, by its state, where the next publication and the next sync Interest have these numbers.
abbrev pub block_report : (m seq sync : ℕ) → BlockState → ReportValue
block_report m seq sync Unknown = ReportValue.Block404 m
block_report m seq sync Already = ReportValue.Block200 m
block_report m seq sync (Waiting p) = ReportValue.Block300 m
block_report m seq sync (Whole p) = ReportValue.BlockPublished m seq sync

-- The report of an event, by its outcome in the model. Of octets that are asked with or fed, the model has only
-- whether they pass, and their verdict is reported.
abbrev pub outcome_report : (g : GroupKeys) → World → (e : EventValue) → OutcomeOf (group_event g e) → ReportValue
outcome_report g w (EventValue.Publish m name size content) outcome = ReportValue.Publish m outcome.seq outcome.segments
    outcome.sync
outcome_report g w (EventValue.Withdraw m s) outcome = ReportValue.Withdraw m outcome.seq s outcome.sync
outcome_report g w (EventValue.Deliver k m) mode = delivered_report k m mode
outcome_report g w (EventValue.Sync k) sync = ReportValue.Sync k (sync_of g sync.sender sync.vector)
outcome_report g w (EventValue.Advance ms) time = ReportValue.Advance time
outcome_report g w (EventValue.Fire m) outcome = fired_report m outcome.sync outcome.timer
outcome_report g w (EventValue.Restart m) outcome = ReportValue.Restart m
outcome_report g w (EventValue.Vector m) vector = ReportValue.Vector m (numbers_from 0 (length w.members)) vector
outcome_report g w (EventValue.Catalogue m) entries = ReportValue.Catalogue m (length entries) entries
outcome_report g w (EventValue.Claim m f) part = claim_report m f part
outcome_report g w (EventValue.Lose m f) part = lost_report m f part
outcome_report g w (EventValue.Answer m f q) kept = answer_report m f kept
outcome_report g w (EventValue.Fetch m workers tries loss) outcome = ReportValue.Fetch m outcome.planned outcome.kept
    outcome.attempts
outcome_report g w (EventValue.Settle workers) outcome = ReportValue.Settle outcome.syncs outcome.kept
outcome_report g w (EventValue.Dump m p s x) held =
    dump_report m (if held then published_packet g (logs w) (part_at p s x) else None)
outcome_report g w (EventValue.Hear m octets) heard = hear_report m (group_verdict g octets) heard
outcome_report g w (EventValue.Ask m octets) found = ask_report m
    (served octets (published_packets g (logs w) (member w m).held))
outcome_report g w (EventValue.Feed m f octets) kept = feed_report g w m f octets (claim_at w m f)
outcome_report g w (EventValue.Order m octets) answer = order_report m answer
outcome_report g w (EventValue.Insert m client name first last) answer = insert_report m answer
outcome_report g w (EventValue.Block m process index content) outcome = block_report m outcome.seq outcome.sync
    outcome.state
outcome_report g w (EventValue.Status m client process) answer = status_report m answer
outcome_report g w (EventValue.Delete m client name) answer = delete_report m answer
outcome_report g w EventValue.Summary totals = ReportValue.Summary (numbers_from 0 (length w.members))
    (map (λ t. t.entries) totals) (map (λ t. t.segments) totals) (map (λ t. t.octets) totals)
outcome_report g w EventValue.Traffic outcome =
    ReportValue.Traffic outcome.syncs outcome.delivered outcome.attempts outcome.parts outcome.octets

-- The report of an event in a world.
abbrev pub event_report : GroupKeys → Environment → World → EventValue → ReportValue
event_report g env w e = outcome_report g w e (outcome env w (group_event g e))
