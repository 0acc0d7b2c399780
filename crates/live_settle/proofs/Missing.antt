-- The parts of the lists that a member doesn't hold.
use Rattle.std.proofs.Common.{◌≡◌, inl, inr, ◌+◌, ◌≤◌, Bool, true, false, cond, ◌||◌, not, List, [], ◌∷◌, length}
use Rattle.std.proofs.Common.{refl, sym}
use Rattle.std.proofs.Common.{ap, ◌∙◌, subst, arith}
use Rattle.std.specs.Prelude.{filter}
use Rattle.std.specs.Ordering.{eq_by_cmp}
use Rattle.std.proofs.lemmas.Bool.{true≢false, or_right}
use Rattle.repo_plan.specs.declared.part.Part.{Part}
use Rattle.sorted_lists.specs.SortedList.{contains, insert_key}
use Rattle.repo_plan.specs.Parts.{part_cmp}
use Rattle.repo_plan.proofs.Orders.{exact_parts}
use Rattle.sorted_lists.proofs.Sets.{In, contains-insert_key, eq_itself}
use Rattle.group_model.specs.Publications.{Logs, all_parts}
use Rattle.live_settle.specs.Ready.{missing}

module _ (p q : Part → Bool) (less : (y : Part) → q y ≡ true → p y ≡ true) where
  filter_most : (xs : List Part) → length (filter q xs) ≤ length (filter p xs)
  filter_most [] = omega arith
  filter_most (x ∷ xs) = go (filter_most xs) (q x) refl (p x) refl where
    go : length (filter q xs) ≤ length (filter p xs) → (b : Bool) → q x ≡ b → (c : Bool) → p x ≡ c
        → length (cond b (x ∷ filter q xs) (filter q xs)) ≤ length (cond c (x ∷ filter p xs) (filter p xs))
    go h true e true d = omega (arith, h)
    go h true e false d = absurd (true≢false (sym (less x e) ∙ d))
    go h false e true d = omega (arith, h)
    go h false e false d = h

  filter_fewer : (xs : List Part) (t : Part) → In t xs → p t ≡ true → q t ≡ false
      → length (filter q xs) + 1 ≤ length (filter p xs)
  filter_fewer [] t i holds lacks = absurd i
  filter_fewer (x ∷ xs) t (inl same) holds lacks =
      let h : length (filter q xs) ≤ length (filter p xs) = filter_most xs in
      go h (q x) (ap q (sym same) ∙ lacks) (p x) (ap p (sym same) ∙ holds) where
        go : length (filter q xs) ≤ length (filter p xs) → (b : Bool) → b ≡ false → (c : Bool) → c ≡ true
            → length (cond b (x ∷ filter q xs) (filter q xs)) + 1 ≤ length (cond c (x ∷ filter p xs) (filter p xs))
        go h true e c d = absurd (true≢false e)
        go h false e false d = absurd (true≢false (sym d))
        go h false e true d = omega (arith, h)
  filter_fewer (x ∷ xs) t (inr i) holds lacks = go (filter_fewer xs t i holds lacks) (q x) refl (p x) refl where
    go : length (filter q xs) + 1 ≤ length (filter p xs) → (b : Bool) → q x ≡ b → (c : Bool) → p x ≡ c
        → length (cond b (x ∷ filter q xs) (filter q xs)) + 1 ≤ length (cond c (x ∷ filter p xs) (filter p xs))
    go h true e true d = omega (arith, h)
    go h true e false d = absurd (true≢false (sym (less x e) ∙ d))
    go h false e true d = omega (arith, h)
    go h false e false d = h

not_false : (b : Bool) → not b ≡ true → b ≡ false
not_false true h = absurd (true≢false (sym h))
not_false false h = refl

-- one key more, which wasn't there, leaves one part less
pub one_less : (ls : Logs) (held : List Part) (t : Part) → In t (all_parts ls) → contains part_cmp held t ≡ false
    → length (missing ls (insert_key part_cmp t held)) + 1 ≤ length (missing ls held)
one_less ls held t i lacks =
    filter_fewer (λ y. not (contains part_cmp held y)) (λ y. not (contains part_cmp
    (insert_key part_cmp t held) y)) kept
    (all_parts ls) t i (ap not lacks) (ap not now) where
      more : (y : Part)
          → contains part_cmp (insert_key part_cmp t held) y ≡ (eq_by_cmp part_cmp y t || contains part_cmp held y)
      more y = contains-insert_key exact_parts t held y

      kept : (y : Part) → not (contains part_cmp (insert_key part_cmp t held) y) ≡ true
          → not (contains part_cmp held y) ≡ true
      kept y h = go (contains part_cmp held y) refl where
        go : (b : Bool) → contains part_cmp held y ≡ b → not b ≡ true
        go false e = refl
        go true e =
            absurd (true≢false (sym (more y ∙ or_right (eq_by_cmp part_cmp y t) (contains part_cmp held y) e)
            ∙ not_false (contains part_cmp (insert_key part_cmp t held) y) h))

      now : contains part_cmp (insert_key part_cmp t held) t ≡ true
      now = more t ∙ ap (λ (b : Bool). b || contains part_cmp held t) (eq_itself exact_parts t)

all_consistent : (xs : List Part) → filter (λ t. true) xs ≡ xs
all_consistent [] = refl
all_consistent (x ∷ xs) = ap (λ (ys : List Part). x ∷ ys) (all_consistent xs)

-- no more are missing than there are
pub missing_few : (ls : Logs) (held : List Part) → length (missing ls held) ≤ length (all_parts ls)
missing_few ls held =
    subst (λ (ts : List Part). length (missing ls held) ≤ length ts) (all_consistent (all_parts ls))
    (filter_most (λ t. true) (λ t. not (contains part_cmp held t)) (λ y h. refl) (all_parts ls))
