-- Where a list of different things has one, also when one more is put in.
use Rattle.std.proofs.Common.{◌≡◌, ℕ, suc, ◌+◌, ◌<◌, ◌≤◌, Bool, true, false, not, cond, ltb, ◌||◌, List, [], ◌∷◌}
use Rattle.std.proofs.Common.{◌++◌, map, length, position, Some, None, refl, sym, ap, ◌∙◌, arith}
use Rattle.std.proofs.Common.{if◌then◌else◌}
use Rattle.std.specs.List.{list_any, prefix_len, position_or_len}
use Rattle.std.proofs.lemmas.Bool.{ltb-true, ltb-false, lt-ltb, le-ltb}
use Rattle.std.proofs.lemmas.List.{map-append, length-map}
use Rattle.std.proofs.lemmas.List.Sums.{prefix_len-le-length}
use Rattle.indexmap.specs.IndexSet.{insert_key}

module _ {X Y : Type 0} (f : X → Y) where
  prefix_len-map : (p : Y → Bool) (xs : List X) → prefix_len p (map f xs) ≡ prefix_len (λ x. p (f x)) xs
  prefix_len-map p [] = refl
  prefix_len-map p (x ∷ xs) = ap (λ (n : ℕ). cond (p (f x)) (1 + n) 0) (prefix_len-map p xs)

  pub place-map : (p : Y → Bool) (xs : List X) → position_or_len p (map f xs) ≡ position_or_len (λ x. p (f x)) xs
  place-map p xs = prefix_len-map (λ y. not (p y)) xs

  pub position-map : (p : Y → Bool) (xs : List X) → position p (map f xs) ≡ position (λ x. p (f x)) xs
  position-map p xs = rw (place-map p xs, length-map xs f) refl

  list_any-map : (p : Y → Bool) (xs : List X) → list_any p (map f xs) ≡ list_any (λ x. p (f x)) xs
  list_any-map p [] = refl
  list_any-map p (x ∷ xs) = ap (λ (b : Bool). p (f x) || b) (list_any-map p xs)

  insert_if : (b : Bool) (xs : List X) (x : X)
      → map f (if b then xs else xs ++ x ∷ []) ≡ (if b then map f xs else map f xs ++ f x ∷ [])
  insert_if true xs x = refl
  insert_if false xs x = map-append f xs (x ∷ [])

  pub insert_key-map : (E : Y → Y → Bool) (xs : List X) (x : X)
      → map f (insert_key (λ a b. E (f a) (f b)) xs x) ≡ insert_key E (map f xs) (f x)
  insert_key-map E xs x =
      insert_if (list_any (λ y. E (f x) (f y)) xs) xs x
      ∙ ap (λ (b : Bool). if b then map f xs else map f xs ++ f x ∷ []) (sym (list_any-map (E (f x)) xs))

module _ {X : Type 0} (p : X → Bool) where
  any_step : (b : Bool) (here there : ℕ) (rest : Bool) → rest ≡ ltb here there
      → (b || rest) ≡ ltb (cond (not b) (1 + here) 0) (suc there)
  any_step true here there rest e = grind arith
  any_step false here there rest e = let shift : ltb here there ≡ ltb (1 + here) (suc there) = grind arith in e ∙ shift

  -- something passes exactly where the first place is within
  pub any_within : (xs : List X) → list_any p xs ≡ ltb (position_or_len p xs) (length xs)
  any_within [] = refl
  any_within (x ∷ xs) = any_step (p x) (position_or_len p xs) (length xs) (list_any p xs) (any_within xs)

  cond_some : (b : Bool) (n j : ℕ) → cond b (Some n) None ≡ Some j → (b ≡ true) × (n ≡ j)
  cond_some true n j e = (refl, cc)
  cond_some false n j e = absurd cc

  cond_none : (b : Bool) (n : ℕ) → cond b (Some n) None ≡ None → b ≡ false
  cond_none true n e = absurd cc
  cond_none false n e = refl

  pub place_found : (xs : List X) (j : ℕ) → position p xs ≡ Some j → (position_or_len p xs ≡ j) × (j < length xs)
  place_found xs j e =
      let both = cond_some (ltb (position_or_len p xs) (length xs)) (position_or_len p xs) j e in
      let lt : position_or_len p xs < length xs = ltb-true (position_or_len p xs) (length xs) both.0 in
      (both.1, omega (arith, lt, both.1))

  pub place_missing : (xs : List X) → position p xs ≡ None → position_or_len p xs ≡ length xs
  place_missing xs e =
      let le : length xs ≤ position_or_len p xs =
      ltb-false (position_or_len p xs) (length xs)
      (cond_none (ltb (position_or_len p xs) (length xs)) (position_or_len p xs) e) in
      omega (arith, le, prefix_len-le-length (λ x. not (p x)) xs)

  pub found_at : (xs : List X) (j : ℕ) → position_or_len p xs ≡ j → j < length xs → position p xs ≡ Some j
  found_at xs j e lt = rw (e, lt-ltb j (length xs) lt) refl

  pub missing_at : (xs : List X) → length xs ≤ position_or_len p xs → position p xs ≡ None
  missing_at xs le = rw (le-ltb (position_or_len p xs) (length xs) le) refl
