-- Lists in order of a key that several may have.
use Rattle.std.specs.Prelude.{◌≡◌, ◌≤◌, ℕ, true, List, [], ◌∷◌, take, drop, length}
use Rattle.std.specs.Ordering.{is_le}
use Rattle.std.specs.declared.cmp.Ordering.{Ordering}
use Rattle.std.specs.declared.cmp.Ordering.TheVariants.{Less}
use Rattle.sorted_lists.specs.Members.{In}

module _ {A K : Type 0} (R : K → K → Ordering) (key : A → K) where
  -- no key stands before a lesser one
  abbrev pub Climbs : List A → Type 0
  Climbs [] = Unit {0}
  Climbs (x ∷ xs) = ((y : A) → In y xs → is_le (R (key x) (key y)) ≡ true) × Climbs xs

  -- the number of elements before this key is `place`
  pub record IsPlaceOf (xs : List A) (k : K) (place : ℕ) : Type 0 where
    pub within : place ≤ length xs
    pub before : (x : A) → In x (take place xs) → R (key x) k ≡ Less
    pub after : (x : A) → In x (drop place xs) → is_le (R k (key x)) ≡ true
