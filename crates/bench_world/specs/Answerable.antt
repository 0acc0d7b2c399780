-- Claimed parts can be had, where index packets and segments are identified by their names and digests.
use Rattle.std.specs.Prelude.{◌≡◌, ℕ, ◌<◌, ◌⊎◌, true, length, Some, None}
use Rattle.repo_plan.specs.declared.part.Part.{Part}
use Rattle.repo_plan.specs.Parts.{Pair, pair_of}
use Rattle.repo_object.specs.Published.{Published, IsCollisionFree}
use Rattle.group_model.specs.Publications.{Logs, post_at}
use Rattle.group_model.specs.Member.{member_holds, has_deleted}
use Rattle.group_model.specs.Events as group
use Rattle.group_model.specs.World.{member, logs}
use Rattle.group_model.specs.Steps.{claim_at}
use Rattle.group_model.specs.Refusals.{refusal}
use Rattle.repo_member.specs.Groups.{GroupKeys, publisher_at}
use Rattle.bench_world.specs.Worlds.{GroupState, world_of}
use Rattle.bench_world.specs.Serving.{lossless}
use Rattle.bench_world.specs.EventValues.{EventValue, ReportValue, event_report}

-- A publication of a group, by its publisher and its number.
abbrev pub published_at : GroupKeys → Logs → Pair → Published
published_at g logs pair = record { publisher = publisher_at g pair.0; seq = pair.1; post = post_at logs pair }

-- Index packets and segments with the same name and the same digest are the same.
abbrev pub AreAllCollisionFree : GroupKeys → Logs → Type 0
AreAllCollisionFree g logs = IsCollisionFree (published_at g logs)

-- The answer of member `q` for the claim of the fetcher `f` of member `j` isn't refused, and is kept.
pub record IsAnswerStored (s : GroupState) (j f q : ℕ) : Type 0 where
  pub taken : refusal (lossless s.keys) (world_of s) (group.Event.Answer j f q) ≡ None
  pub report : event_report s.keys (lossless s.keys) (world_of s) (EventValue.Answer j f q) ≡ ReportValue.AnswerKept j f

-- The answer of a member that holds the claimed part is kept, where publications are free of collisions.
abbrev pub HoldersCanAnswer : GroupState → Type 0
HoldersCanAnswer s =
    AreAllCollisionFree s.keys (logs (world_of s)) → (j f q : ℕ) (t : Part) → j < length s.members → q
    < length s.members
    → claim_at (world_of s) j f ≡ Some t → member_holds (member (world_of s) q) t ≡ true → IsAnswerStored s j f q

-- The answer of the publisher of the claimed part is kept, where publications are free of collisions, unless the
-- publisher has deleted the publication.
abbrev pub PublishersCanAnswer : GroupState → Type 0
PublishersCanAnswer s = AreAllCollisionFree s.keys (logs (world_of s)) → (j f : ℕ) (t : Part) → j < length s.members
    → claim_at (world_of s) j f ≡ Some t
    → IsAnswerStored s j f t.publisher ⊎ (has_deleted (member (world_of s) t.publisher) (pair_of t) ≡ true)
