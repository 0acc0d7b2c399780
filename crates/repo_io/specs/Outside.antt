-- What a run gets from its source and gives to its sink.
use Rattle.std.specs.Prelude.{◌≡◌, ◌≢◌, ◌<◌, ℕ, List, [], ◌++◌, Option, ◌⊎◌}
use Rattle.std.specs.Io.KnownBytes.{Appends}

-- A count of faults rose. It stays at the greatest number that 64 bits hold, so there it counts as risen.
abbrev pub HasRisen : ℕ → ℕ → Type 0
HasRisen old new = (old < new) ⊎ (new ≡ 18446744073709551615)

-- An output gained a text at its end, where it is known.
abbrev pub GainsText : Option (List ℕ) → Option (List ℕ) → List ℕ → Type 0
GainsText old new text = Appends old new text

-- An output gained a prefix of the text, and nothing else. Where it fell short, that is not the whole.
pub record GainsPrefix (old new : Option (List ℕ)) (text : List ℕ) (FellShort : Type 0) : Type 0 where
  pub written : List ℕ
  pub rest : List ℕ
  pub parts : text ≡ written ++ rest
  pub gained : GainsText old new written
  pub short : FellShort → rest ≢ []
