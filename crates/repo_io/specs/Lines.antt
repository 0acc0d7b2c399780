-- The lines of an input.
use Rattle.std.specs.Prelude.{◌≡◌, ◌≢◌, ℕ, Bool, true, false, ⊤, List, [], ◌∷◌, ◌++◌, ◌==◌, ◌⊎◌}
use Rattle.std.specs.List.{list_any}

-- An octet in front of lines. A line feed is the last octet of its line.
abbrev pub octet_before : ℕ → Bool → List (List ℕ) → List (List ℕ)
octet_before octet true others = (octet ∷ []) ∷ others
octet_before octet false [] = (octet ∷ []) ∷ []
octet_before octet false (line ∷ others) = (octet ∷ line) ∷ others

-- The lines of an input, each with the line feed that ends it. What stands after the last line feed is a line too,
-- unless nothing does.
unfoldable pub lines : List ℕ → List (List ℕ)
lines [] = []
lines (octet ∷ octets) = octet_before octet (octet == 10) (lines octets)

-- ---- what a line is

-- There is a line feed among the octets.
abbrev pub has_feed : List ℕ → Bool
has_feed octets = list_any (λ octet. octet == 10) octets

-- A line that ends with its only line feed.
pub record IsWhole (line : List ℕ) : Type 0 where
  pub prefix : List ℕ
  pub free : has_feed prefix ≡ false
  pub is : line ≡ prefix ++ 10 ∷ []

-- A line of octets, and none of them a line feed: only the last line is such a one.
pub record IsOpen (line : List ℕ) : Type 0 where
  pub some : line ≢ []
  pub free : has_feed line ≡ false

-- Lines that follow one another: each but the last ends with its only line feed.
abbrev pub AreLines : List (List ℕ) → Type 0
AreLines [] = ⊤
AreLines (line ∷ []) = IsWhole line ⊎ IsOpen line
AreLines (line ∷ next ∷ others) = IsWhole line × AreLines (next ∷ others)
