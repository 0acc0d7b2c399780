-- State vectors, as lists of numbers, one a member: the latest sequence number that is known of each (State Vector
-- Sync).
use Rattle.std.specs.Prelude.{◌≡◌, ◌<◌, ◌^◌, ℕ, max, Bool, true, false, List, [], ◌∷◌, nat_le, ◌&&◌, ◌↔◌}
use Rattle.std.specs.List.{All, Contains}

-- Numbers of publications have 16 bits at most.
abbrev pub AreNumbers : List ℕ → Type 0
AreNumbers v = All (λ n. n < 2 ^ 16) v

-- The greater number in each place. A place that one of them lacks counts as 0.
unfoldable pub join : List ℕ → List ℕ → List ℕ
join [] w = w
join (n ∷ v) [] = n ∷ v
join (n ∷ v) (m ∷ w) = max n m ∷ join v w

-- The second vector has no greater number than the first.
abbrev pub Covers : List ℕ → List ℕ → Type 0
Covers v w = join v w ≡ v

-- The test of it: the second has no place that the first lacks, and none where it is greater.
unfoldable pub covers : List ℕ → List ℕ → Bool
covers v [] = true
covers [] (m ∷ w) = false
covers (n ∷ v) (m ∷ w) = nat_le m n && covers v w

-- The greatest number in each place, of any number of vectors.
unfoldable pub join_all : List (List ℕ) → List ℕ
join_all [] = []
join_all (v ∷ vs) = join v (join_all vs)

-- Two lists of vectors with the same members, in any order and with any repeats.
abbrev pub HaveSameVectors : List (List ℕ) → List (List ℕ) → Type 0
HaveSameVectors vs ws = (v : List ℕ) → Contains vs v ↔ Contains ws v
