-- What the lab shows of a world.
use Rattle.std.specs.Prelude.{ℕ, ◌-◌, ◌==◌, List, Option, None, if◌then◌else◌, slice_get}
use Rattle.std.specs.Option.{option_map}
use Rattle.group_model.specs.Events.{SyncInterest}
use Rattle.group_model.specs.World.{World}
use Rattle.repo_member.specs.Groups.{GroupKeys}
use Rattle.repo_member.specs.Verdicts.{sync_of}

-- The member that sent the sync Interest of a number, counted from 1.
abbrev pub sender_at : World → ℕ → Option ℕ
sender_at w k = if k == 0 then None else option_map (λ (s : SyncInterest). s.sender) (slice_get w.sent (k - 1))

-- The octets of a sync Interest.
abbrev pub octets_of : GroupKeys → SyncInterest → List ℕ
octets_of g s = sync_of g s.sender s.vector

-- The octets of the sync Interest of a number, counted from 1.
abbrev pub sync_octets_at : GroupKeys → World → ℕ → Option (List ℕ)
sync_octets_at g w k = if k == 0 then None else option_map (octets_of g) (slice_get w.sent (k - 1))
