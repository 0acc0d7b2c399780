-- The values of one port, and facts of all places but one.
use Rattle.std.proofs.Common.{◌≡◌, ◌≢◌, ℕ, zero, suc, ◌<◌, ◌≤◌, ◌==◌, ◌⊎◌, inl, inr, true, false, List, [], ◌∷◌, ◌++◌}
use Rattle.std.proofs.Common.{length, map, set, refl, ap, sym, ◌∙◌, subst, ⊎_elim, arith}
use Rattle.std.specs.Prelude.{slice_index_or}
use Rattle.std.specs.List.{All, filter}
use Rattle.std.proofs.lemmas.List.{map-append}
use Rattle.std.proofs.lemmas.List.Elements.{All-nil, All-cons, All-tail, filter-append}
use Rattle.std.proofs.lemmas.Bool.{ne_eqb, cases_lt}
use Rattle.std.proofs.lemmas.Bool.Decides.{eqb_tells}
use mathlib.Core.Option.{some, some-injective, some-ne-none}
use lib.ListN.{get_elem?}
use Rattle.crossbeam_queue.proofs.Lists.{at_set}
use Rattle.live_inbox.specs.declared.knowledge.Sent.{Sent}
use Rattle.live_inbox.specs.Knowledge.{values_of}

pub same_number : (p q : ℕ) → p ≡ q → (p == q) ≡ true
same_number p q is =
    ⊎_elim (λ (t : ((p == q) ≡ true) × (p ≡ q)). t.0) (λ (t : ((p == q) ≡ false) × (p ≢ q)). absurd (t.1 is))
    (eqb_tells p q)

-- a weaker fact of all elements
pub All_to : {X : Type 0} (P Q : X → Type 0) → ((x : X) → P x → Q x) → (xs : List X) → All P xs → All Q xs
All_to {X} P Q f xs h = λ k d lt. f (slice_index_or xs k d) (h k d lt)

pub second_part : {X : Type 0} (P : X → Type 0) (xs ys : List X) → All P (xs ++ ys) → All P ys
second_part P [] ys h = h
second_part P (x ∷ xs) ys h = second_part P xs ys (All-tail P x (xs ++ ys) h)

-- an element of a list that is longer by one
pub at_longer : {A : Type 0} (l : List A) (a b : A) (j : ℕ) → get_elem? (l ++ a ∷ []) j ≡ some b
    → (get_elem? l j ≡ some b) ⊎ ((j ≡ length l) × (a ≡ b))
at_longer [] a b zero e = inr (refl, some-injective a b e)
at_longer [] a b (suc j) e = absurd (some-ne-none b (sym e))
at_longer (x ∷ xs) a b zero e = inl e
at_longer (x ∷ xs) a b (suc j) e = ⊎_elim (λ t. inl t) (λ (t : (j ≡ length xs) × (a ≡ b)). inr (ap suc t.0, t.1))
    (at_longer xs a b j e)

-- what holds at each place after a change of one
pub each_set : {V : Type 0} (F : ℕ → V → Type 0) (views : List V) (place : ℕ) (w : V) → F place w
    → ((j : ℕ) (u : V) → j ≢ place → get_elem? views j ≡ some u → F j u)
    → (j : ℕ) (u : V) → get_elem? (set views place w) j ≡ some u → F j u
each_set {V} F views place w mine others j u e =
    ⊎_elim (λ (x : (j ≡ place) × (w ≡ u)). subst (λ (y : ℕ × V). F y.0 y.1) (λ i. (sym x.0 i, x.1 i)) mine)
    (λ (x : (j ≢ place) × (get_elem? views j ≡ some u)). others j u x.0 x.1) (at_set views place j w u e)

module _ {T : Type 0} where
  pub values_append : (p : ℕ) (xs ys : List (Sent T)) → values_of p (xs ++ ys) ≡ values_of p xs ++ values_of p ys
  values_append p xs ys =
      ap (map (λ (x : Sent T). x.value)) (filter-append (λ (x : Sent T). x.port == p) xs ys)
      ∙ map-append (λ (x : Sent T). x.value) (filter (λ (x : Sent T). x.port == p) xs)
      (filter (λ (x : Sent T). x.port == p) ys)

  -- what a first value adds
  own_first : (p : ℕ) (x : Sent T) (xs : List (Sent T)) → x.port ≡ p → values_of p (x ∷ xs) ≡ x.value ∷ values_of p xs
  own_first p x xs is = rw (same_number x.port p is) refl

  other_first : (p : ℕ) (x : Sent T) (xs : List (Sent T)) → x.port ≢ p → values_of p (x ∷ xs) ≡ values_of p xs
  other_first p x xs isnt = rw (ne_eqb x.port p isnt) refl

  pub values_own : (p : ℕ) (x : Sent T) → x.port ≡ p → values_of p (x ∷ []) ≡ x.value ∷ []
  values_own p x is = own_first p x [] is

  pub values_other : (p : ℕ) (x : Sent T) → x.port ≢ p → values_of p (x ∷ []) ≡ []
  values_other p x isnt = other_first p x [] isnt

  own_some : (p : ℕ) (x : Sent T) (xs : List (Sent T)) → x.port ≡ p → values_of p (x ∷ xs) ≢ []
  own_some p x xs is none = absurd (omega (arith, ap length (sym (own_first p x xs is) ∙ none)))

  rest_none : (p : ℕ) (x : Sent T) (xs : List (Sent T)) → values_of p (x ∷ xs) ≡ [] → values_of p xs ≡ []
  rest_none p x xs none =
      ⊎_elim (λ (t : ((x.port == p) ≡ true) × (x.port ≡ p)). absurd (own_some p x xs t.1 none))
      (λ (t : ((x.port == p) ≡ false) × (x.port ≢ p)). sym (other_first p x xs t.1) ∙ none) (eqb_tells x.port p)

  -- where some numbers have no values, no value is of one of them
  pub all_below : (n : ℕ) (items : List (Sent T)) → ((p : ℕ) → n ≤ p → values_of p items ≡ [])
      → All (λ x. x.port < n) items
  all_below n [] none = All-nil (λ x. x.port < n)
  all_below n (x ∷ xs) none =
      All-cons (λ x. x.port < n) x xs
      (⊎_elim (λ less. less) (λ (most : n ≤ x.port). absurd (own_some x.port x xs refl (none x.port most)))
      (cases_lt x.port n))
      (all_below n xs (λ p most. rest_none p x xs (none p most)))
