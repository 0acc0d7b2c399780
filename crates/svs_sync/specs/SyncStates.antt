-- A member that keeps the vectors heard as one, their join.
use Rattle.std.specs.Prelude.{ℕ, ◌+◌, List, [], ◌∷◌, Option, Some, None, nat_lt, if◌then◌else◌}
use Rattle.std.specs.Option.{option_map}
use Rattle.svs_vector.specs.Vectors.{join, covers, join_all}
use Rattle.svs_sync.specs.declared.fired.Fired.{Fired}
use Rattle.svs_sync.specs.declared.fired.Fired.TheVariants.{Early, Quiet, Send}
use Rattle.svs_sync.specs.Suppression.{SyncEvent, SyncMember, periodic, suppression}
use Rattle.svs_sync.specs.Suppression.SyncEvent.{published, heard, fired, reset}

-- The sync state of a member: the join of the vectors that were heard since it was last Steady, or `None` where it is
-- Steady; its deadline; how many draws it has used; and for how many members its vectors have numbers.
pub record SyncState : Type 0 where
  pub members : ℕ
  pub heard : Option (List ℕ)
  pub deadline : ℕ
  pub draws : ℕ

-- The state of a member with one joined vector.
abbrev pub kept : ℕ → SyncMember → SyncState
kept members m =
    record {
      members = members;
      heard = option_map join_all m.heard;
      deadline = m.deadline;
      draws = m.draws;
    }

-- The member is Steady from now on, and its timer is due after a drawn period. Times are in milliseconds.
abbrev pub becomes_steady : ℕ → ℕ → SyncState → SyncState
becomes_steady now draw k = record k { heard = None; deadline = now + periodic draw; draws = k.draws + 1 }

-- The member hears a vector. A Steady one is Suppressed where that vector lacks what the member knows.
abbrev pub after_hearing : ℕ → List ℕ → List ℕ → ℕ → SyncState → Option (List ℕ) → SyncState
after_hearing now received known draw k None =
    if covers received known then becomes_steady now draw k
    else record k { heard = Some received; deadline = now + suppression draw; draws = k.draws + 1 }
after_hearing now received known draw k (Some vector) = record k { heard = Some (join vector received) }

-- What a member does whose timer is due: it sends, unless what it heard covers what it knows.
abbrev pub when_due : List ℕ → Option (List ℕ) → Fired
when_due known None = Send
when_due known (Some vector) = if covers vector known then Quiet else Send

-- What a member does whose timer is asked at the time `now`.
abbrev pub when_fired : ℕ → List ℕ → SyncState → Fired
when_fired now known k = if nat_lt now k.deadline then Early else when_due known k.heard

-- The state after the timer was asked at the time `now`: a timer that was due is set anew.
abbrev pub state_after_firing : ℕ → ℕ → SyncState → SyncState
state_after_firing now draw k = if nat_lt now k.deadline then k else becomes_steady now draw k

-- The state after each event.
unfoldable pub state_after_event : SyncEvent → SyncState → SyncState
state_after_event (published now draw) k = becomes_steady now draw k
state_after_event (heard now received known draw) k = after_hearing now received known draw k k.heard
state_after_event (fired now known draw) k = state_after_firing now draw k
state_after_event (reset now draw) k = becomes_steady now draw k

-- The state after all events of a list.
unfoldable pub state_after_events : List SyncEvent → SyncState → SyncState
state_after_events [] k = k
state_after_events (e ∷ es) k = state_after_events es (state_after_event e k)
