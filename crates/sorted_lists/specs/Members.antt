-- What lists have, in any order.
use Rattle.std.specs.Prelude.{◌≡◌, ◌⊎◌, List, [], ◌∷◌}

-- it stands in the list
abbrev pub In : {A : Type 0} → A → List A → Type 0
In x [] = ⊥
In x (y ∷ ys) = (x ≡ y) ⊎ In x ys

-- the lists have the same
pub record HaveSame {A : Type 0} (xs ys : List A) : Type 0 where
  pub there : (x : A) → In x xs → In x ys
  pub back : (x : A) → In x ys → In x xs
