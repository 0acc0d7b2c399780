-- Groups of two members.
use Rattle.std.specs.Prelude.{◌≡◌, List, [], ◌∷◌}
use Rattle.repo_object.specs.Objects.{NamedContents}
use Rattle.repo_member.specs.Groups.{GroupKeys}
use Rattle.live_member.specs.Meanings.{Meaning, IsWithinLimits}

-- A group of two members with these lists and with the draws 100 and 200.
pub record IsOfTwo (t : Meaning) (group_keys : GroupKeys) (first second : List NamedContents) : Type 0 where
  pub group : group_keys ≡ t.group
  pub lists : t.lists ≡ first ∷ second ∷ []
  pub draws : t.draws ≡ 100 ∷ 200 ∷ []
  pub within : IsWithinLimits t
