-- What the publication of an object leaves.
use Rattle.std.specs.Prelude.{◌≡◌, ℕ, ◌+◌, None}
use Rattle.repo_object.specs.Objects.{NamedContents}
use Rattle.repo_object.specs.Objects.Post.{Offers}
use Rattle.group_model.specs.Events.{Event}
use Rattle.group_model.specs.Refusals.{refusal}
use Rattle.group_model.specs.World.{Environment}
use Rattle.group_model.specs.Steps.{after_publish, next_seq_at, next_sync}
use Rattle.bench_world.specs.Worlds.{GroupState, world_of}

-- Member `m` published the object, which nothing refused. `given` has the number of the publication and that of the
-- sync Interest. The event counts as a step; keys and mirrors are unchanged.
pub record IsObjectPublished (env : Environment) (old : GroupState) (m : ℕ) (object : NamedContents) (new : GroupState)
    (given : ℕ × ℕ)
    : Type 0 where
  pub taken : refusal env (world_of old) (Event.Publish m object) ≡ None
  pub world : world_of new ≡ after_publish env (world_of old) m (Offers object)
  pub seq : given.0 ≡ next_seq_at (world_of old) m
  pub sync : given.1 ≡ next_sync (world_of old)
  pub steps : new.steps ≡ old.steps + 1
  pub keys : new.keys ≡ old.keys
  pub mirrors : new.mirrors ≡ old.mirrors
