-- Rosters, as lists of the members' node names, which differ. A member's number is its place, from 0.
use Rattle.std.specs.Prelude.{◌≡◌, ℕ, ◌≤◌, Bool, List, Option, Vec, length, position}
use Rattle.std.specs.List.{All, IsDistinct}
use Rattle.std.specs.Str.{bytes_eq}
use Rattle.ndn_name.specs.Names.{Component, IsName, encoding, name_limit}
use Rattle.svs_vector.specs.Format.{member_limit}

-- Names are the same exactly where their octets are.
abbrev pub has_same_octets : List Component → List Component → Bool
has_same_octets a b = bytes_eq (encoding a) (encoding b)

-- The number of the member of this name.
abbrev pub member_of : List Component → List (List Component) → Option ℕ
member_of name roster = position (has_same_octets name) roster

-- A name that may be owned.
abbrev pub IsOwnName : List Component → Type 0
IsOwnName name = IsName name × (length (encoding name) ≤ name_limit)

-- The names of a roster differ, and there are 16 at most.
pub record IsRoster (roster : List (List Component)) : Type 0 where
  pub few : length roster ≤ member_limit
  pub names : All IsOwnName roster
  pub different : IsDistinct has_same_octets roster

-- Each name stands under its octets, and there are 16 at most.
pub record AreMembers {A : Type 0} (entries : List (Vec ℕ A × List Component)) : Type 0 where
  pub octets : All (λ (entry : Vec ℕ A × List Component). entry.0.items ≡ encoding entry.1) entries
  pub names : All (λ (entry : Vec ℕ A × List Component). IsOwnName entry.1) entries
  pub few : length entries ≤ member_limit
