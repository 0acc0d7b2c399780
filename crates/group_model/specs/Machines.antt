-- The sync states of a group's members, over the lists of vectors that they heard.
use Rattle.std.specs.Prelude.{ℕ, ◌≡◌, ◌<◌, List, [], ◌∷◌, ◌++◌, length, Option, Some, None, ◌==◌, if◌then◌else◌}
use Rattle.svs_sync.specs.Suppression.{periodic, fires}
use Rattle.svs_sync.specs.Suppression.SyncEvent.{published, heard, fired, reset}
use Rattle.svs_sync.specs.SyncStates.{kept}
use Rattle.repo_process.specs.Processes.{BlockState}
use Rattle.repo_process.specs.Processes.BlockState.{Whole}
use Rattle.group_model.specs.Events.{SyncInterest, Event}
use Rattle.group_model.specs.World.{Environment, World, member, sent_at, initial_world}
use Rattle.group_model.specs.Steps.{drawn, timer_at, exceeds_log, block_at, after_event, after_events}
use Rattle.group_model.specs.Refusals.{EventsAreTaken}
use Rattle.svs_sync.specs.Suppression

-- The event `e` of member `i`, as one of member `j`: nothing, unless `i` is `j`.
abbrev pub only_at : (i j : ℕ) → Suppression.SyncEvent → List Suppression.SyncEvent
only_at i j e = if i == j then e ∷ [] else []

-- What happens to the sync state of member `j` when member `i` hears a vector.
abbrev pub hears_of : Environment → World → (i j : ℕ) → List ℕ → List Suppression.SyncEvent
hears_of env w i j received = only_at i j (heard w.time received (member w i).known (drawn env w i))

-- What happens to the sync state of member `j` when member `i` hears octets; those that are refused change nothing.
abbrev pub happens_when_read : Environment → World → (i j : ℕ) → Option SyncInterest → List Suppression.SyncEvent
happens_when_read env w i j None = []
happens_when_read env w i j (Some sync) = if exceeds_log w i sync then [] else hears_of env w i j sync.vector

-- What happens to the sync state of member `j` when a block of member `i` publishes an object.
abbrev pub happens_in_block : Environment → World → (i j : ℕ) → BlockState → List Suppression.SyncEvent
happens_in_block env w i j (Whole p) = only_at i j (published w.time (drawn env w i))
happens_in_block env w i j _ = []

-- What happens to the sync state of member `j` in an event of the group.
abbrev pub happens_to : Environment → World → ℕ → Event → List Suppression.SyncEvent
happens_to env w j (Event.Publish i o) = only_at i j (published w.time (drawn env w i))
happens_to env w j (Event.Withdraw i seq) = only_at i j (published w.time (drawn env w i))
happens_to env w j (Event.Deliver k i) = hears_of env w i j (sent_at w k).vector
happens_to env w j (Event.Fire i) = only_at i j (fired w.time (member w i).known (drawn env w i))
happens_to env w j (Event.Restart i) = only_at i j (reset w.time (drawn env w i))
happens_to env w j Event.Settle = reset w.time (drawn env w j) ∷ []
happens_to env w j (Event.Hear i read) = happens_when_read env w i j read
happens_to env w j (Event.Block i process index content) =
    happens_in_block env w i j (block_at w i process index content)
happens_to env w j _ = []

-- What happens to the sync state of member `j` in a list of events.
abbrev pub happens_over : Environment → World → ℕ → List Event → List Suppression.SyncEvent
happens_over env w j [] = []
happens_over env w j (e ∷ es) = happens_to env w j e ++ happens_over env (after_event env w e) j es

-- After the events `es` the sync state of member `j` is what the table makes of what happened to it, with the join of
-- the vectors heard in place of their list. What its timer says is what the table says, too.
pub record FollowsTable (env : Environment) (w : World) (es : List Event) (n j : ℕ)
    (first : Suppression.SyncMember) : Type 0 where
  pub machine : (member (after_events env w es) j).machine
      ≡ kept n (Suppression.after_sync_events (happens_over env w j es) first)
  pub timer : let last = after_events env w es in
      timer_at last j ≡ fires last.time (member last j).known
      (Suppression.after_sync_events (happens_over env w j es) first)

-- A sync state that is as the table has it follows the table in any events that are taken.
abbrev pub MachinesFollowTable : Environment → World → Type 0
MachinesFollowTable env w = (es : List Event) (n j : ℕ) (first : Suppression.SyncMember) → EventsAreTaken env w es
    → j < length w.members → (member w j).machine ≡ kept n first → FollowsTable env w es n j first

-- A sync state begins Steady, with the periodic deadline of its first draw.
abbrev pub first_machine : Environment → ℕ → Suppression.SyncMember
first_machine env j = record { heard = None; deadline = periodic (env.draw j 0); draws = 1 }

-- The sync state of each member at the beginning of a group is as the table has it.
abbrev pub MachinesBegin : Type 0
MachinesBegin = (env : Environment) (n j : ℕ) → j < n
    → (member (initial_world env n) j).machine ≡ kept n (first_machine env j)

-- The sync states of every run from the beginning of a group follow the table.
abbrev pub ReachedMachinesFollowTable : Type 0
ReachedMachinesFollowTable = (env : Environment) (n : ℕ) (es : List Event) (j : ℕ)
    → EventsAreTaken env (initial_world env n) es
    → j < n → FollowsTable env (initial_world env n) es n j (first_machine env j)
