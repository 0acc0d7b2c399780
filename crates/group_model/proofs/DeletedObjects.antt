-- Only objects are hidden.
use Rattle.std.proofs.Common.{◌≡◌, inl, inr, ℕ, ◌≤◌, ◌<◌, List, [], ◌∷◌, length, replicate, refl, sym, ap, ◌∙◌, subst}
use Rattle.std.proofs.Common.{set, arith, None}
use Rattle.std.specs.Prelude.{is_some}
use Rattle.sorted_lists.specs.Range.{numbers_from}
use Rattle.repo_plan.specs.Parts.{Pair}
use Rattle.repo_object.specs.Objects.{Post, offered}
use Rattle.svs_sync.specs.Suppression.{periodic}
use Rattle.group_model.specs.Publications.{Logs, last_of}
use Rattle.group_model.specs.Member.{Member}
use Rattle.group_model.specs.Events.{Event}
use Rattle.group_model.specs.World.{Environment, World, no_member, member, logs, logs_of, initial_world}
use Rattle.group_model.specs.Steps.{after_event, after_events}
use Rattle.group_model.specs.Refusals.{EventsAreTaken}
use Rattle.group_model.specs.Sound.{IsSoundGroup, IsSoundMember, IsPublished}
use Rattle.group_model.specs.Reached.{InSoundGroups, InReachedGroups}
use Rattle.group_model.specs.Deletions.{IsOffered, OnlyObjectsDeleted, BeginsWithObjectsDeleted}
use Rattle.group_model.specs.Deletions.{StaysWithObjectsDeleted}
use Rattle.group_model.proofs.Members.{known_published}
use Rattle.group_model.proofs.Worlds.{last_at, post_kept, sound_after}
use Rattle.group_model.proofs.GoingOn.{PostsOne, GoesOn}
use Rattle.group_model.proofs.Lasting.{goes_on}
use Rattle.group_model.proofs.Runs.{nothing_published, sound_initial}

-- an object stays one whatever is published
offered_kept : (old new : Logs) (quiet : Type 0) (pair : Pair) → PostsOne old new quiet → IsOffered old pair
    → IsOffered new pair
offered_kept old new quiet pair p o =
    let was : IsOffered (logs_of p.before) pair = subst (λ (ls : Logs). IsOffered ls pair) (sym p.was) o in
    let more : last_of (logs_of p.before) pair.0 ≤ last_of (logs_of (set p.before p.publisher p.changed)) pair.0 =
    last_at p.before p.publisher p.changed p.post p.more pair.0 in
    subst (λ (ls : Logs). IsOffered ls pair) (sym p.is) (record {
      published = record {
        from_one = was.published.from_one;
        to_last = omega (arith, was.published.to_last, more);
      };
      object =
          ap (λ (x : Post). is_some (offered x))
          (post_kept p.before p.publisher p.changed p.post p.more pair.0 pair.1 was.published.from_one
          was.published.to_last)
          ∙ was.object;
    })

pub stays_with_objects_deleted : InSoundGroups StaysWithObjectsDeleted
stays_with_objects_deleted env w s e taken only j pair l h =
    let g : GoesOn w (after_event env w e) _ = goes_on env w e taken s in
    let within : j < length w.members = subst (λ (n : ℕ). j < n) g.last.width l in
    let object : IsOffered (logs w) pair =
    elim (g.hides j within pair h) [ inl was ↦ only j pair within was | inr now ↦ now ] in
    elim g.posted [
      | inl same ↦ subst (λ (ls : Logs). IsOffered ls pair) (sym same) object
      | inr p ↦ offered_kept (logs w) (logs (after_event env w e)) _ pair p object
    ]

pub begins_with_objects_deleted : BeginsWithObjectsDeleted
begins_with_objects_deleted env n j pair l h =
    let f : ℕ → Member = λ i. record no_member {
      known = replicate n 0;
      machine = record { members = n; heard = None; deadline = periodic (env.draw i 0); draws = 1 };
    } in
    let s : IsSoundMember (logs (initial_world env n)) j (member (initial_world env n) j) =
    (sound_initial env n).members j l in
    let there : IsPublished (logs (initial_world env n)) pair =
    known_published (logs (initial_world env n)) (member (initial_world env n) j).known pair s.known
    (s.hidden pair h).known in
    let none : last_of (logs (initial_world env n)) pair.0 ≡ 0 =
    nothing_published f (numbers_from 0 n) pair.0 (λ x. refl) in
    absurd (omega (arith, none, there.from_one, there.to_last))

all_with_objects_hidden : (env : Environment) (es : List Event) (w : World) → EventsAreTaken env w es → IsSoundGroup w
    → OnlyObjectsDeleted w → OnlyObjectsDeleted (after_events env w es)
all_with_objects_hidden env [] w h s only = only
all_with_objects_hidden env (e ∷ es) w h s only =
    all_with_objects_hidden env es (after_event env w e) h.1 (sound_after env w e h.0 s)
    (stays_with_objects_deleted env w s e h.0 only)

pub reached_with_objects_deleted : InReachedGroups (λ env w. OnlyObjectsDeleted w)
reached_with_objects_deleted env n es h =
    all_with_objects_hidden env es (initial_world env n) h (sound_initial env n) (begins_with_objects_deleted env n)
