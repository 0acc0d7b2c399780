-- Parts that a plan lists.
use Rattle.std.proofs.Common.{◌≡◌, ℕ, Bool, true, false, cond, not, List, [], ◌∷◌, refl, Option, take}
use Rattle.std.proofs.lemmas.Bool.{and_parts}
use Rattle.std.specs.List.{All, filter}
use Rattle.std.proofs.lemmas.List.Elements.{All-cons, All-nil, All-filter, All-take}
use Rattle.repo_plan.specs.declared.part.Part.{Part}
use Rattle.repo_plan.specs.Plan.{PlanState, may_be_asked_for, is_wanted, is_claimed, is_unclaimed, unclaimed}
use Rattle.repo_plan.specs.Plan.{known_parts}
use Rattle.repo_plan.specs.Plan.{is_after}
use Rattle.repo_plan.proofs.Known.{wanted_is_asked}

all_that_pass : {A : Type 0} (p : A → Bool) (P : A → Type 0) → ((x : A) → p x ≡ true → P x) → (xs : List A)
    → All P (filter p xs)
all_that_pass p P h [] = All-nil P
all_that_pass {A = A} p P h (x ∷ xs) = go (p x) refl (all_that_pass p P h xs) where
  go : (b : Bool) → p x ≡ b → All P (filter p xs) → All P (cond b (x ∷ filter p xs) (filter p xs))
  go true e rest = All-cons P x (filter p xs) (h x e) rest
  go false e rest = rest

later_are_asked : (p : PlanState) (after : Option Part)
    → All (λ t. may_be_asked_for p t ≡ true) (filter (is_after after) (unclaimed p))
later_are_asked p after =
    All-filter (is_after after) (λ t. may_be_asked_for p t ≡ true) (unclaimed p)
    (all_that_pass (is_unclaimed p) (λ t. may_be_asked_for p t ≡ true)
    (λ t h. wanted_is_asked p t (and_parts (is_wanted p t) (not (is_claimed p t)) h).0) (known_parts p))

-- each is asked for
pub listed_are_asked : (p : PlanState) (after : Option Part) (most : ℕ)
    → All (λ t. may_be_asked_for p t ≡ true) (take most (filter (is_after after) (unclaimed p)))
listed_are_asked p after most =
    All-take (λ t. may_be_asked_for p t ≡ true) most (filter (is_after after) (unclaimed p)) (later_are_asked p after)

-- so is each that passes a test besides
pub passing_are_asked : (p : PlanState) (test : Part → Bool) (after : Option Part) (most : ℕ)
    → All (λ t. may_be_asked_for p t ≡ true) (take most (filter test (filter (is_after after) (unclaimed p))))
passing_are_asked p test after most =
    All-take (λ t. may_be_asked_for p t ≡ true) most (filter test (filter (is_after after) (unclaimed p)))
    (All-filter test (λ t. may_be_asked_for p t ≡ true) (filter (is_after after) (unclaimed p))
    (later_are_asked p after))
