-- The value of a member's sync state.
use Rattle.std.specs.Prelude.{ℕ, List, Option, Some, None, length}
use Rattle.svs_sync.specs.declared.mode.Mode.{Mode}
use Rattle.svs_sync.specs.declared.mode.Mode.TheVariants.{Steady, Suppressed}
use Rattle.svs_sync.specs.declared.machine.Machine.TheInside.{Inside}
use Rattle.svs_sync.specs.SyncStates.{SyncState}

-- The join of the vectors heard. While the member is Steady there is none, and `vector` means nothing.
abbrev pub heard_in : Mode → List ℕ → Option (List ℕ)
heard_in Steady vector = None
heard_in Suppressed vector = Some vector

-- What contracts see of the sync state.
abbrev pub keeper : Inside → SyncState
keeper m =
    record {
      members = length m.heard;
      heard = heard_in m.mode m.heard;
      deadline = m.deadline;
      draws = m.draws;
    }
