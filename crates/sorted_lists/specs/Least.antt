-- The first by a key, among some.
use Rattle.std.specs.Prelude.{◌≡◌, Bool, true, List, Option, Some, None, if◌then◌else◌}
use Rattle.std.specs.Ordering.{is_le, is_gt}
use Rattle.std.specs.declared.cmp.Ordering.{Ordering}
use Rattle.sorted_lists.specs.Members.{In}

-- it is in the list, and passes the test
abbrev pub Passes : {A : Type 0} → List A → (A → Bool) → A → Type 0
Passes xs test x = In x xs × (test x ≡ true)

module _ {A K : Type 0} (R : K → K → Ordering) (key : A → K) where
  -- it is one of these, and none of them comes before it
  pub record IsLeastOf (P : A → Type 0) (x : A) : Type 0 where
    pub there : P x
    pub least : (y : A) → P y → is_le (R (key x) (key y)) ≡ true

  -- the one of these that comes first; or nothing where there is none
  abbrev pub IsFirstBy : (A → Type 0) → Option A → Type 0
  IsFirstBy P None = (x : A) → P x → ⊥
  IsFirstBy P (Some x) = IsLeastOf P x

  -- of what passes a test, that which comes first; or nothing where nothing passes
  abbrev pub IsFirstThat : List A → (A → Bool) → Option A → Type 0
  IsFirstThat xs test r = IsFirstBy (Passes xs test) r

  -- the one of two that comes first
  abbrev pub lesser_by : Option A → Option A → Option A
  lesser_by None b = b
  lesser_by (Some a) None = Some a
  lesser_by (Some a) (Some b) = if is_gt (R (key a) (key b)) then Some b else Some a
