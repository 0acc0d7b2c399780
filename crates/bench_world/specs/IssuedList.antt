-- The commands that clients made, as a list in the order of making.
use Rattle.std.specs.Prelude.{ℕ, List}
use Rattle.group_model.specs.World.{Issued}

-- The commands that were made, and for how many more commands there is capacity.
pub record IssuedList : Type 0 where
  pub commands : List Issued
  pub spare : ℕ
