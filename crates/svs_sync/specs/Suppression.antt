-- When a member sends its state vector, and when it is suppressed: the suppression of State Vector Sync, with the times
-- and the draws of this project. Times are in milliseconds.
use Rattle.std.specs.Prelude.{ℕ, ◌+◌, ◌%◌, List, [], ◌∷◌, ◌++◌, Option, Some, None, nat_lt, if◌then◌else◌}
use Rattle.svs_vector.specs.Vectors.{covers, join_all}
use Rattle.svs_sync.specs.declared.mode.Mode.{Mode}
use Rattle.svs_sync.specs.declared.mode.Mode.TheVariants.{Steady, Suppressed}
use Rattle.svs_sync.specs.declared.fired.Fired.{Fired}
use Rattle.svs_sync.specs.declared.fired.Fired.TheVariants.{Early, Quiet, Send}

-- How long a steady member waits.
abbrev pub periodic : ℕ → ℕ
periodic draw = 27000 + draw % 6001

-- How long a member is suppressed that heard an older vector than its own.
abbrev pub suppression : ℕ → ℕ
suppression draw = draw % 201

-- What happens to a member. Each event has the next draw, whether it is used or not.
pub data SyncEvent : Type 0 where
  published : (now draw : ℕ) → SyncEvent
  heard : (now : ℕ) (received known : List ℕ) (draw : ℕ) → SyncEvent
  fired : (now : ℕ) (known : List ℕ) (draw : ℕ) → SyncEvent
  reset : (now draw : ℕ) → SyncEvent

-- The sync state of a member: the vectors that were heard since it was last Steady, in order, or `None` where it is
-- Steady; its deadline; and how many draws it has used.
pub record SyncMember : Type 0 where
  pub heard : Option (List (List ℕ))
  pub deadline : ℕ
  pub draws : ℕ

-- The member is Steady from now on, with a periodic deadline and one more draw used.
abbrev pub steady : ℕ → ℕ → SyncMember → SyncMember
steady now draw m = record { heard = None; deadline = now + periodic draw; draws = m.draws + 1 }

-- A vector is heard. A Steady member stays so where the vector covers the one that is known before, and is Suppressed
-- where it doesn't. A Suppressed one adds it to those heard, uses no draw, and keeps its deadline.
abbrev pub hears : ℕ → List ℕ → List ℕ → ℕ → SyncMember → Option (List (List ℕ)) → SyncMember
hears now received known draw m None =
    if covers received known then steady now draw m
    else record { heard = Some (received ∷ []); deadline = now + suppression draw; draws = m.draws + 1 }
hears now received known draw m (Some vectors) = record m { heard = Some (vectors ++ received ∷ []) }

-- What a member does whose timer is due: it sends, but is quiet where it is Suppressed and the vectors that it heard
-- together cover its own vector.
abbrev pub due : List ℕ → Option (List (List ℕ)) → Fired
due known None = Send
due known (Some vectors) = if covers (join_all vectors) known then Quiet else Send

-- What a member does whose timer is asked: nothing before its deadline.
abbrev pub fires : ℕ → List ℕ → SyncMember → Fired
fires now known m = if nat_lt now m.deadline then Early else due known m.heard

-- The member after each event.
unfoldable pub after_sync_event : SyncEvent → SyncMember → SyncMember
after_sync_event (published now draw) m = steady now draw m
after_sync_event (heard now received known draw) m = hears now received known draw m m.heard
after_sync_event (fired now known draw) m = if nat_lt now m.deadline then m else steady now draw m
after_sync_event (reset now draw) m = steady now draw m

-- The member after a list of events.
unfoldable pub after_sync_events : List SyncEvent → SyncMember → SyncMember
after_sync_events [] m = m
after_sync_events (e ∷ es) m = after_sync_events es (after_sync_event e m)

-- The mode of a member, by the vectors that it heard since it was last Steady.
abbrev pub mode_of : {A : Type 0} → Option A → Mode
mode_of None = Steady
mode_of (Some vectors) = Suppressed
