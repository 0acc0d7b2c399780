-- The members' places in a run.
use Rattle.std.specs.Prelude.{ℕ, ◌≡◌, ◌<◌, List, length, slice_index}
use Rattle.repo_object.specs.Objects.{NamedContents}
use Rattle.live_member.specs.Meanings.{Meaning, IsWithinLimits, objects_of}

-- The place is that of a member, with the member's list and draw.
pub record IsSeat (t : Meaning) (number draw : ℕ) (objects : List NamedContents) : Type 0 where
  pub within : IsWithinLimits t
  pub there : number < length t.lists
  pub list : objects ≡ objects_of t number
  pub its_draw : draw ≡ slice_index t.draws number
