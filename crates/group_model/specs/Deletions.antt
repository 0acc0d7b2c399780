-- Which publications are deleted.
use Rattle.std.specs.Prelude.{ℕ, ◌≡◌, ◌<◌, true, length, is_some}
use Rattle.repo_plan.specs.Parts.{Pair}
use Rattle.repo_object.specs.Objects.{offered}
use Rattle.group_model.specs.Publications.{Logs, post_at}
use Rattle.group_model.specs.Member.{has_deleted}
use Rattle.group_model.specs.Events.{Event}
use Rattle.group_model.specs.World.{Environment, World, member, logs, initial_world}
use Rattle.group_model.specs.Steps.{after_event}
use Rattle.group_model.specs.Sound.{IsPublished}
use Rattle.group_model.specs.Refusals.{EventIsTaken}

-- The publication `pair` was published, and it is an object.
pub record IsOffered (logs : Logs) (pair : Pair) : Type 0 where
  pub published : IsPublished logs pair
  pub object : is_some (offered (post_at logs pair)) ≡ true

-- Each deleted publication is an object that was published, and so no withdrawal is deleted.
abbrev pub OnlyObjectsDeleted : World → Type 0
OnlyObjectsDeleted w = (j : ℕ) (pair : Pair) → j < length w.members → has_deleted (member w j) pair ≡ true
    → IsOffered (logs w) pair

-- Only objects are deleted in a group in which nothing has happened.
abbrev pub BeginsWithObjectsDeleted : Type 0
BeginsWithObjectsDeleted = (env : Environment) (n : ℕ) → OnlyObjectsDeleted (initial_world env n)

-- Where only objects are deleted, it stays so after any event that is taken.
abbrev pub StaysWithObjectsDeleted : Environment → World → Type 0
StaysWithObjectsDeleted env w = (e : Event) → EventIsTaken env w e → OnlyObjectsDeleted w
    → OnlyObjectsDeleted (after_event env w e)
