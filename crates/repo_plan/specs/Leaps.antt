-- The search for wanted parts that others hold.
use Rattle.std.specs.Prelude.{ℕ, ◌≡◌, ◌≤◌, ◌<◌, Bool, true, false, List, Option, Some, None}
use Rattle.std.specs.List.{list_any}
use Rattle.std.specs.Ordering.{is_le}
use Rattle.std.specs.declared.cmp.Ordering.TheVariants.{Less}
use Rattle.repo_plan.specs.declared.part.Part.{Part}
use Rattle.sorted_lists.specs.Least.{IsFirstBy}
use Rattle.repo_plan.specs.Parts.{Pair, pair_cmp, part_cmp, pair_of, part_of}
use Rattle.repo_plan.specs.Plan.{PlanState, knows, holds}

-- whether a part is not below another
abbrev pub is_from : Part → Part → Bool
is_from t u = is_le (part_cmp t u)

-- a part that passes a test and is not below another
abbrev pub PassesFrom : (Part → Bool) → Part → Part → Type 0
PassesFrom test t u = (is_from t u ≡ true) × (test u ≡ true)

-- the least part that passes a test and is not below another; or nothing where there is none
abbrev pub IsLeastFrom : (Part → Bool) → Part → Option Part → Type 0
IsLeastFrom test t r = IsFirstBy part_cmp (λ u. u) (PassesFrom test t) r

-- whether one of these holds the part
abbrev pub some_holds : {H : Type 0} → (H → Part → Bool) → List H → Part → Bool
some_holds has others t = list_any (λ o. has o t) others

-- ---- the steps of the search for a held part

-- the least held part of a part's publication that is not below it; or nothing where there is none
abbrev pub IsHeldHere : PlanState → Part → Option Part → Type 0
IsHeldHere p t None = (x : ℕ) → t.part ≤ x → holds p (part_of (pair_of t) x) ≡ false
IsHeldHere p t (Some u) =
    (u ≡ part_of (pair_of t) u.part) × (t.part ≤ u.part) × (holds p u ≡ true)
    × ((x : ℕ) → t.part ≤ x → x < u.part → holds p (part_of (pair_of t) x) ≡ false)

-- a publication is after another, with no known one between them; or nothing where no known one is after it
abbrev pub IsNextKnown : PlanState → Pair → Option Pair → Type 0
IsNextKnown p pair None = (q : Pair) → knows p q ≡ true → pair_cmp pair q ≡ Less → ⊥
IsNextKnown p pair (Some n) =
    (pair_cmp pair n ≡ Less)
    × ((q : Pair) → knows p q ≡ true → pair_cmp pair q ≡ Less → is_le (pair_cmp n q) ≡ true)

-- a held part of a later publication than another part's
abbrev pub IsHeldLater : PlanState → Part → Part → Type 0
IsHeldLater p t u = (pair_cmp (pair_of t) (pair_of u) ≡ Less) × (holds p u ≡ true)

-- the least of these; or nothing where there is none
abbrev pub IsLeastLater : PlanState → Part → Option Part → Type 0
IsLeastLater p t r = IsFirstBy part_cmp (λ u. u) (IsHeldLater p t) r
