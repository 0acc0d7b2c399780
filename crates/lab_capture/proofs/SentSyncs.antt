-- Each sync Interest in a frame was sent.
use Rattle.std.proofs.Common.{◌≡◌, ℕ, ◌+◌, ◌-◌, ◌==◌, Bool, true, false, List, [], ◌∷◌, length, refl}
use Rattle.std.proofs.Common.{Option, Some, None, All}
use Rattle.std.specs.Prelude.{slice_get, if◌then◌else◌}
use Rattle.std.specs.List.{Contains, flat_map}
use Rattle.std.specs.Option.{option_map}
use Rattle.std.proofs.lemmas.List.Elements.{All-append, All-cons, All-nil}
use Rattle.std.proofs.lemmas.Option.{get_or_from_slice_get, slice_get_within}
use Rattle.sorted_lists.specs.Range.{numbers_from}
use Rattle.group_model.specs.Events.{SyncInterest}
use Rattle.group_model.specs.World.{World}
use Rattle.repo_member.specs.Groups.{GroupKeys}
use Rattle.bench_world.specs.Showing.{octets_of}
use Rattle.lab_capture.specs.declared.station.Station.{Station}
use Rattle.lab_capture.specs.declared.station.Station.TheVariants.{AllMembers, Member}
use Rattle.lab_capture.specs.Frames.{new_syncs, sent_now, sync_frames, sync_to, sync_to_some}
use Rattle.lab_capture.specs.Laws.{WasSent}

-- a condition that holds of all values of each element holds of all values of all elements
pub all_of_each : {X Y : Type 0} (P : Y → Type 0) (f : X → List Y) → ((x : X) → All P (f x)) → (xs : List X)
    → All P (flat_map f xs)
all_of_each P f each [] = All-nil P
all_of_each P f each (x ∷ xs) = All-append P (f x) (flat_map f xs) (each x) (all_of_each P f each xs)

module _ (g : GroupKeys) (w : World) where
  one_was_sent : (to : Station) (k : ℕ) → All (WasSent g w) (sync_to g w to k)
  one_was_sent to k = go (k == 0) (slice_get w.sent (k - 1)) refl where
    go : (b : Bool) (o : Option SyncInterest) → slice_get w.sent (k - 1) ≡ o
        → All (WasSent g w) (sync_frames w to
        (if b then None else option_map (λ (s : SyncInterest). s.sender) o)
        (if b then None else option_map (octets_of g) o))
    go true o e = All-nil (WasSent g w)
    go false None e = All-nil (WasSent g w)
    go false (Some s) e =
        let sent : Contains w.sent s =
        (k - 1, slice_get_within w.sent (k - 1) s e, get_or_from_slice_get w.sent (k - 1) s s e) in
        All-cons (WasSent g w) (sent_now w (Member s.sender) to (octets_of g s)) []
        (record { sync = s; sent = sent; source = refl; packet = refl }) (All-nil (WasSent g w))

  pub new_were_sent : (sent : ℕ) → All (WasSent g w) (new_syncs g w sent)
  new_were_sent sent =
      all_of_each (WasSent g w) (sync_to g w AllMembers) (one_was_sent AllMembers)
      (numbers_from (sent + 1) (length w.sent - sent))

  pub heard_was_sent : (k : ℕ) (kind : ℕ → Station) (i : Option ℕ) → All (WasSent g w) (sync_to_some g w k kind i)
  heard_was_sent k kind None = All-nil (WasSent g w)
  heard_was_sent k kind (Some i) = one_was_sent (kind i) k
