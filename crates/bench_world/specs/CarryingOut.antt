-- What the calls that carry out events need, and what they leave.
use Rattle.std.specs.Prelude.{ℕ, ◌≡◌, ◌+◌, List, None, length}
use Rattle.group_model.specs.Refusals.{refusal, EventsAreTaken}
use Rattle.group_model.specs.World.{Environment}
use Rattle.group_model.specs.Steps.{after_event, after_events}
use Rattle.bench_world.specs.declared.event.Event.{Event}
use Rattle.bench_world.specs.EventValues.{EventValue, ReportValue, group_event, event_report}
use Rattle.bench_world.specs.Steps.{EventInRange, NamesClient, NamesInRange}
use Rattle.bench_world.specs.Runs.{JoinsAfter, ListLawFrom, event_values, group_events}
use Rattle.bench_world.specs.Worlds.{GroupState, world_of}

-- The event can be carried out in a group of `of_members` members and `of_clients` clients.
pub record EventFits (of_members of_clients : ℕ) (e : EventValue) : Type 0 where
  pub ready : EventInRange of_members e
  pub clients : NamesClient of_clients e

-- The event was carried out: the group doesn't refuse it, the world after it is the model's, and it counts as a step.
-- After a settle, where nothing is deleted, each catalogue is the join of all publications.
pub record HasCarriedOut (env : Environment) (e : EventValue) (old new : GroupState) : Type 0 where
  pub taken : refusal env (world_of old) (group_event old.keys e) ≡ None
  pub world : world_of new ≡ after_event env (world_of old) (group_event old.keys e)
  pub joined : JoinsAfter e (world_of new)
  pub steps : new.steps ≡ old.steps + 1

-- The report of the event is the model's, and each member that it names exists.
pub record IsReportOf (env : Environment) (e : EventValue) (old : GroupState) (what : ReportValue) : Type 0 where
  pub report : what ≡ event_report old.keys env (world_of old) e
  pub all : NamesInRange (length old.keys.members.names) what

-- The events were carried out one after another, each as a step: the group refuses none, and the world after them is
-- the model's. Where the later ones publish nothing and inform each member of all that each other has published, and
-- nothing is wanted or deleted in the end, each catalogue is the join of all publications.
pub record HaveCarriedOut (env : Environment) (events : List Event) (old new : GroupState) : Type 0 where
  pub taken : EventsAreTaken env (world_of old) (group_events old.keys (event_values events))
  pub world : world_of new ≡ after_events env (world_of old) (group_events old.keys (event_values events))
  pub joined : ListLawFrom env (world_of old) (group_events old.keys (event_values events)) (world_of new)
  pub steps : new.steps ≡ old.steps + length events

-- The names and keys of the group stay, and its mirrors.
pub record KeepsKeysAndMirrors (old new : GroupState) : Type 0 where
  pub keys : new.keys ≡ old.keys
  pub mirrors : new.mirrors ≡ old.mirrors
