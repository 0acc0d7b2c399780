-- Elements of lists by their places, and numbers that follow one another.
use Rattle.std.proofs.Common.{◌≡◌, ℕ, zero, suc, ◌+◌, ◌<◌, List, [], ◌∷◌, ◌++◌, length, Some, slice_get, refl, ap}
use Rattle.std.proofs.Common.{subst, ◌∙◌, arith}
use Rattle.std.specs.List.{All}
use Rattle.std.proofs.lemmas.List.Elements.{All-head, All-tail}
use Rattle.std.proofs.lemmas.Option.{same_Some}
use Rattle.sorted_lists.specs.Range.{numbers_from}

-- a list in front, and one after it
pub slice_get-prefix : {A : Type 0} (a b : List A) (i : ℕ) → i < length a → slice_get (a ++ b) i ≡ slice_get a i
slice_get-prefix [] b i low = absurd (omega (arith, low))
slice_get-prefix (x ∷ xs) b zero low = refl
slice_get-prefix (x ∷ xs) b (suc i) low = slice_get-prefix xs b i (omega (arith, low))

pub slice_get-after : {A : Type 0} (a b : List A) (i : ℕ) → slice_get (a ++ b) (length a + i) ≡ slice_get b i
slice_get-after [] b i = let same : 0 + i ≡ i = omega arith in ap (slice_get b) same
slice_get-after (x ∷ xs) b i =
    let more : length (x ∷ xs) + i ≡ suc (length xs + i) = omega arith in
    ap (slice_get (x ∷ xs ++ b)) more ∙ slice_get-after xs b i

-- what is so of all is so of the one at a place
pub all_at : {A : Type 0} (P : A → Type 0) (xs : List A) (i : ℕ) (x : A) → All P xs → slice_get xs i ≡ Some x → P x
all_at P [] i x all h = absurd cc
all_at P (y ∷ ys) zero x all h = subst P (same_Some y x h) (All-head P y ys all)
all_at P (y ∷ ys) (suc i) x all h = all_at P ys i x (All-tail P y ys all) h

pub numbers-at : (first n i : ℕ) → i < n → slice_get (numbers_from first n) i ≡ Some (first + i)
numbers-at first zero i low = absurd (omega (arith, low))
numbers-at first (suc n) zero low = let same : first ≡ first + 0 = omega arith in ap (λ (m : ℕ). Some m) same
numbers-at first (suc n) (suc i) low =
    let same : first + 1 + i ≡ first + suc i = omega arith in
    numbers-at (first + 1) n i (omega (arith, low)) ∙ ap (λ (m : ℕ). Some m) same
