-- What is kept of a member is the join of the vectors that the table lists.
use Rattle.std.proofs.Common.{◌≡◌, ℕ, ◌+◌, Bool, true, false, List, [], ◌∷◌, ◌++◌, Option, Some, None, ltb, refl, sym}
use Rattle.std.proofs.Common.{ap, ◌∙◌, if◌then◌else◌}
use Rattle.std.specs.Option.{option_map}
use Rattle.svs_vector.specs.Vectors.{join, covers, join_all}
use Rattle.svs_vector.proofs.JoinLemmas.{join-[], join_assoc}
use Rattle.svs_sync.specs.declared.fired.Fired.{Fired}
use Rattle.svs_sync.specs.declared.fired.Fired.TheVariants.{Early}
use Rattle.svs_sync.specs.Suppression.{SyncEvent, SyncMember, suppression, steady, hears, due, fires, after_sync_event}
use Rattle.svs_sync.specs.Suppression.{after_sync_events, mode_of}
use Rattle.svs_sync.specs.Suppression.SyncEvent.{published, heard, fired, reset}
use Rattle.svs_sync.specs.SyncStates.{SyncState, kept, becomes_steady, after_hearing, when_due, when_fired}
use Rattle.svs_sync.specs.SyncStates.{state_after_event}
use Rattle.svs_sync.specs.SyncStates.{state_after_events}

join_all-push : (vs : List (List ℕ)) (w : List ℕ) → join_all (vs ++ w ∷ []) ≡ join (join_all vs) w
unfolding join_all join
join_all-push [] w = join-[] w
join_all-push (v ∷ vs) w = ap (join v) (join_all-push vs w) ∙ sym (join_assoc v (join_all vs) w)

join_all-one : (w : List ℕ) → join_all (w ∷ []) ≡ w
unfolding join_all
join_all-one w = join-[] w

kept_if : (n : ℕ) (b : Bool) (x y : SyncMember) → kept n (if b then x else y) ≡ (if b then kept n x else kept n y)
kept_if n true x y = refl
kept_if n false x y = refl

hears_same : (n now : ℕ) (received known : List ℕ) (draw : ℕ) (m : SyncMember) (h : Option (List (List ℕ)))
    → after_hearing now received known draw (kept n m) (option_map join_all h)
    ≡ kept n (hears now received known draw m h)
hears_same n now received known draw m None =
    let alone : SyncMember =
    record { heard = Some (received ∷ []); deadline = now + suppression draw; draws = m.draws + 1 } in
    let one : SyncState =
    record { members = n; heard = Some received; deadline = now + suppression draw; draws = m.draws + 1 } in
    let same : one ≡ kept n alone =
    ap (λ (v : List ℕ).
    let k : SyncState = record {
      members = n;
      heard = Some v;
      deadline = now + suppression draw;
      draws =
          m.draws + 1;
    } in
    k) (sym (join_all-one received)) in
    ap (λ (k : SyncState). if covers received known then becomes_steady now draw (kept n m) else k) same
    ∙ sym (kept_if n (covers received known) (steady now draw m) alone)
hears_same n now received known draw m (Some vectors) =
    ap (λ (v : List ℕ).
    let k : SyncState = record { members = n; heard = Some v; deadline = m.deadline; draws = m.draws } in k)
    (sym (join_all-push vectors received))

after_same : (n : ℕ) (e : SyncEvent) (m : SyncMember) → state_after_event e (kept n m) ≡ kept n (after_sync_event e m)
unfolding state_after_event after_sync_event
after_same n (published now draw) m = refl
after_same n (heard now received known draw) m = hears_same n now received known draw m m.heard
after_same n (fired now known draw) m = sym (kept_if n (ltb now m.deadline) m (steady now draw m))
after_same n (reset now draw) m = refl

pub after_all_same : (n : ℕ) (events : List SyncEvent) (m : SyncMember)
    → state_after_events events (kept n m) ≡ kept n (after_sync_events events m)
unfolding state_after_events after_sync_events
after_all_same n [] m = refl
after_all_same n (e ∷ es) m = ap (state_after_events es) (after_same n e m)
    ∙ after_all_same n es (after_sync_event e m)

due_same : (known : List ℕ) (h : Option (List (List ℕ))) → when_due known (option_map join_all h) ≡ due known h
due_same known None = refl
due_same known (Some vectors) = refl

pub fires_same : (n now : ℕ) (known : List ℕ) (m : SyncMember) → when_fired now known (kept n m) ≡ fires now known m
fires_same n now known m = ap (λ (f : Fired). if ltb now m.deadline then Early else f) (due_same known m.heard)

mode_same : (h : Option (List (List ℕ))) → mode_of (option_map join_all h) ≡ mode_of h
mode_same None = refl
mode_same (Some vectors) = refl

pub modes_same : (n : ℕ) (m : SyncMember) → mode_of (kept n m).heard ≡ mode_of m.heard
modes_same n m = mode_same m.heard
