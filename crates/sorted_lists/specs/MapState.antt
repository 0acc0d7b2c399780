-- What contracts see of a map.
use Rattle.std.specs.Prelude.{ℕ, List}

-- The entries of a map, and its room.
pub record MapState (K V : Type 0) : Type 0 where
  pub entries : List (K × V)  -- in order of their keys, each key once
  pub spare : ℕ  -- for how many more entries there is capacity
