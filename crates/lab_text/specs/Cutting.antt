-- How octets are cut into lines.
use Rattle.std.specs.Prelude.{◌≡◌, ℕ, false, List, [], ◌∷◌, ◌++◌, ◌⊎◌}
use Rattle.repo_io.specs.Lines.{has_feed}

-- Octets that end with a line feed.
pub record EndsWithFeed (octets : List ℕ) : Type 0 where
  pub text : List ℕ
  pub is : octets ≡ text ++ 10 ∷ []

-- Octets that are nothing but whole lines.
abbrev pub AreWholeLines : List ℕ → Type 0
AreWholeLines octets = (octets ≡ []) ⊎ EndsWithFeed octets

-- Octets that follow others, and have no line feed.
pub record HasOpenEnd (before octets : List ℕ) : Type 0 where
  pub after : List ℕ
  pub is : octets ≡ before ++ after
  pub free : has_feed after ≡ false
