-- Rings of keys, as lists of pairs whose names differ. A pair's number is its place, from 0.
use Rattle.std.specs.Prelude.{ℕ, ◌≤◌, Bool, List, Option, length, position}
use Rattle.std.specs.List.{IsDistinct}
use Rattle.std.specs.Str.{bytes_eq}

-- The octets of a key name, and the key.
pub record NamedKey : Type 0 where
  pub name : List ℕ
  pub key : List ℕ

-- A key under the octets of its name.
abbrev pub pair : List ℕ → List ℕ → NamedKey
pair name key = record { name = name; key = key }

-- The number of the pair of this name.
abbrev pub key_number : List ℕ → List NamedKey → Option ℕ
key_number name ring = position (λ pair. bytes_eq name pair.name) ring

-- Two pairs have the same name.
abbrev pub has_same_name : NamedKey → NamedKey → Bool
has_same_name a b = bytes_eq a.name b.name

-- How many pairs a ring may have: a number has 32 bits.
abbrev pub pair_limit : ℕ
pair_limit = 4294967295

-- The names of a ring differ, and its numbers have 32 bits.
pub record IsRing (ring : List NamedKey) : Type 0 where
  pub few : length ring ≤ pair_limit
  pub different : IsDistinct has_same_name ring
