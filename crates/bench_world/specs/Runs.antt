-- What a step leaves when memory runs out, how an event ends, and lists of events.
use Rattle.std.specs.Prelude.{ℕ, ◌≡◌, ◌+◌, ◌<◌, List, ◌++◌, map, take, length, slice_index_or, Option, None, Result}
use Rattle.std.specs.Prelude.{OnOk, IfOk, OnErr, IfErr}
use Rattle.group_model.specs.Events as group
use Rattle.group_model.specs.Refusals.{Refusal, refusal, EventsAreTaken}
use Rattle.group_model.specs.World.{Environment, World, catalogue_at}
use Rattle.group_model.specs.Steps.{after_event, after_events, after_gathering}
use Rattle.group_model.specs.Laws.{NothingDeleted, NothingWanted, AllJoined, EachHearsAll}
use Rattle.repo_member.specs.Groups.{GroupKeys}
use Rattle.bench_world.specs.declared.event.Event.{Event}
use Rattle.bench_world.specs.declared.event.Happened.{Happened}
use Rattle.bench_world.specs.declared.event.EventError.{EventError}
use Rattle.bench_world.specs.declared.event.StepFault.{StepFault}
use Rattle.bench_world.specs.EventValues.{EventValue, ReportValue, event_value, group_event, report_value, event_report}
use Rattle.bench_world.specs.Settling.{ArePartlySettled}
use Rattle.bench_world.specs.Steps.{IsFaultOf, IsStepFaultOf}
use Rattle.bench_world.specs.Worlds.{GroupState, IsConsistentState, in_groups, world_of}

-- What a settle leaves when memory runs out: it counts as a step, each member is partly settled, and nothing else has
-- changed. The group was sound before and is sound after, what its members store included.
pub record HaveSettledPartly (old new : GroupState) : Type 0 where
  pub same : new ≡ record old { members = new.members; steps = old.steps + 1 }
  pub members : ArePartlySettled (world_of old) (in_groups new.members)
  pub begun : IsConsistentState old
  pub consistent : IsConsistentState new

-- Two groups have the same members, and so the same catalogues.
pub record HaveSameMembers (w v : World) : Type 0 where
  pub members : w.members ≡ v.members
  pub catalogues : (j : ℕ) → catalogue_at w j ≡ catalogue_at v j

-- A settle that succeeds after one that ran out of memory leaves the members that the first would have left.
abbrev pub GathersAgain : Type 0
GathersAgain = (env : Environment) (old new : GroupState) → HaveSettledPartly old new
    → HaveSameMembers (after_gathering env (world_of new)) (after_gathering env (world_of old))

-- The step of a settle, made after a settle that ran out of memory, leaves the members that the first would have left.
abbrev pub SettlesAgain : Type 0
SettlesAgain = (env : Environment) (old new : GroupState) → HaveSettledPartly old new
    → HaveSameMembers (after_event env (world_of new) group.Event.Settle)
    (after_event env (world_of old) group.Event.Settle)

-- What an event that fails leaves: a settle leaves members partly settled, and any other event changes nothing.
abbrev pub StandsAsBefore : EventValue → GroupState → GroupState → Type 0
StandsAsBefore (EventValue.Settle workers) old new = HaveSettledPartly old new
StandsAsBefore _ old new = new ≡ old

-- After a settle, where nothing is deleted, each catalogue is the join of all publications.
abbrev pub JoinsAfter : EventValue → World → Type 0
JoinsAfter (EventValue.Settle workers) w = NothingDeleted w → AllJoined w
JoinsAfter _ w = Unit {0}

-- How the event `e` ends. If it is carried out, nothing refuses it (`why`), the world after it is `then`, and its
-- report is `what`. If it isn't, the error is the one for `why`, or memory ran out.
pub record EndsAs (why : Option Refusal) (then : World) (what : ReportValue) (e : EventValue) (old : GroupState)
    (result : Result Happened EventError) (new : GroupState) : Type 0 where
  pub taken : OnOk result (why ≡ None)
  pub world : OnOk result (world_of new ≡ then)
  pub report : IfOk result (λ happened. report_value happened ≡ what)
  pub joined : OnOk result (JoinsAfter e (world_of new))
  pub steps : OnOk result (new.steps ≡ old.steps + 1)
  pub keys : new.keys ≡ old.keys
  pub mirrors : new.mirrors ≡ old.mirrors
  pub refused : IfErr result (IsFaultOf why)
  pub err : OnErr result (StandsAsBefore e old new)

-- An event ends as the model says: its refusal, the world after it and its report are the model's.
abbrev pub IsStep : Environment → EventValue → GroupState → Result Happened EventError → GroupState → Type 0
IsStep env e old result new =
    EndsAs (refusal env (world_of old) (group_event old.keys e))
    (after_event env (world_of old) (group_event old.keys e))
    (event_report old.keys env (world_of old) e) e old result new

-- ---- lists of events

-- The values of the program's events.
abbrev pub event_values : List Event → List EventValue
event_values events = map event_value events

-- The events as the group has them.
abbrev pub group_events : GroupKeys → List EventValue → List group.Event
group_events g events = map (group_event g) events

-- The first `k` events were carried out, each as a step. The next one failed with the fault `received` and left `new`.
pub record IsStopped (env : Environment) (begun : GroupState) (events : List EventValue) (k : ℕ) (received : StepFault)
    (new : GroupState) : Type 0 where
  pub inside : k < length events
  pub taken : EventsAreTaken env (world_of begun) (group_events begun.keys (take k events))
  pub before : GroupState
  pub steps : before.steps ≡ begun.steps + k
  pub keys : before.keys ≡ begun.keys
  pub world : world_of before ≡ after_events env (world_of begun) (group_events begun.keys (take k events))
  pub stands : StandsAsBefore (slice_index_or events k EventValue.Traffic) before new
  pub because : IsStepFaultOf
      (refusal env (world_of before) (group_event begun.keys (slice_index_or events k EventValue.Traffic))) received

-- Where the later events publish nothing and inform each member of all that each other has published, and nothing is
-- wanted or deleted in the end, each catalogue is the join of all publications.
abbrev pub ListLawFrom : Environment → World → List group.Event → World → Type 0
ListLawFrom env w events last = (first later : List group.Event) → events ≡ first ++ later
    → EachHearsAll env (after_events env w first) later → NothingDeleted last → NothingWanted last → AllJoined last
