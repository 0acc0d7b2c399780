-- Tests that passed.
use Rattle.std.proofs.Common.{◌≡◌, ◌≢◌, ◌<◌, ◌≤◌, ℕ, Bool, true, false, not, ◌&&◌, ◌||◌, eqb, List, [], ◌∷◌, nat_le}
use Rattle.std.proofs.Common.{nat_lt, Result, Ok, Err, if◌then◌else◌, refl, arith, inl, inr}
use Rattle.std.specs.List.{list_all}
use Rattle.std.proofs.lemmas.Bool.{false≢true, and_from}
use Rattle.std.proofs.lemmas.Bool.Decides.{nat_tests, eqb_tells}

pub and_right : (a b : Bool) → (a && b) ≡ true → b ≡ true
and_right true b h = h
and_right false b h = absurd (false≢true h)

pub and_left : (a b : Bool) → (a && b) ≡ true → a ≡ true
and_left true b h = refl
and_left false b h = absurd (false≢true h)

pub or_left : (a b : Bool) → a ≡ true → (a || b) ≡ true
or_left a b h = rw h refl

pub le_test : (a b : ℕ) → a ≤ b → nat_le a b ≡ true
le_test a b h = grind (arith, nat_tests)

pub le_tested : (a b : ℕ) → nat_le a b ≡ true → a ≤ b
le_tested a b h = grind (arith, nat_tests)

pub lt_tested : (a b : ℕ) → nat_lt a b ≡ true → a < b
lt_tested a b h = grind (arith, nat_tests)

pub same_tested : (a b : ℕ) → eqb a b ≡ true → a ≡ b
same_tested a b h = grind (arith, nat_tests)

pub other_test : (a b : ℕ) → a ≢ b → eqb a b ≡ false
other_test a b other = elim (eqb_tells a b) [ inl p ↦ absurd (other p.1) | inr p ↦ p.0 ]

pub some_test : (n : ℕ) → 0 < n → not (eqb n 0) ≡ true
some_test n h = grind (arith, nat_tests)

pub weaker : (p q : ℕ → Bool) → ((x : ℕ) → p x ≡ true → q x ≡ true) →
    (xs : List ℕ) → list_all p xs ≡ true
    → list_all q xs ≡ true
weaker p q f [] h = refl
weaker p q f (x ∷ xs) h = and_from (q x) (list_all q xs) (f x (and_left (p x) _ h))
    (weaker p q f xs (and_right (p x) _ h))

-- where a test chose an answer
pub chosen : {A E P : Type 0} (b : Bool) (x y : Result A E) (v : A) → (if b then x else y) ≡ Ok v
    → (b ≡ true → x ≡ Ok v → P) → (b ≡ false → y ≡ Ok v → P) → P
chosen true x y v h f g = f refl h
chosen false x y v h f g = g refl h

pub never : {A E P : Type 0} (e : E) (v : A) → Err e ≡ Ok v → P
never e v h = cc

pub same_ok : {A E : Type 0} (a b : A) → ◌≡◌ {A = Result A E} (Ok a) (Ok b) → a ≡ b
same_ok a b h = cc
