-- What the lines are that differ, and when none do.
use Rattle.std.proofs.Common.{◌≡◌, ◌↔◌, ℕ, Bool, true, false, List, [], ◌∷◌, ◌++◌, length, refl, sym, ap, ◌∙◌}
use Rattle.std.proofs.Common.{arith, append_assoc, length-append}
use Rattle.std.specs.Prelude.{reverse}
use Rattle.std.specs.Str.{bytes_eq}
use Rattle.std.proofs.lemmas.List.{reverse-append, reverse-reverse}
use Rattle.std.proofs.lemmas.Slice.Eq.{bytes_eq-Decides}
use Rattle.lab_text.specs.Differences.{Difference, IsApart, LiesBetween, after_common_prefix, are_same}
use Rattle.lab_text.specs.Differences.{before_common_suffix, difference, differing, reversed}

-- ---- the same

same_is_equal : (expected actual : List (List ℕ)) → are_same expected actual ≡ true → expected ≡ actual
unfolding after_common_prefix
same_is_equal [] [] e = refl
same_is_equal [] (y ∷ ys) e = absurd cc
same_is_equal (x ∷ xs) [] e = absurd cc
same_is_equal (x ∷ xs) (y ∷ ys) e = go (bytes_eq x y) refl (same_is_equal xs ys) where
  go : (b : Bool) → bytes_eq x y ≡ b → (are_same xs ys ≡ true → xs ≡ ys) → x ∷ xs ≡ y ∷ ys
  go true t more =
      ap (λ (line : List ℕ). line ∷ xs) ((bytes_eq-Decides x y).0 t)
      ∙ ap (λ (ls : List (List ℕ)). y ∷ ls) (more (rw t at e))
  go false t more = let none = rw t at e in absurd cc

nothing_left : (ls : List (List ℕ)) → after_common_prefix ls ls ≡ difference [] []
unfolding after_common_prefix
nothing_left [] = refl
nothing_left (x ∷ xs) = rw ((bytes_eq-Decides x x).1 refl) (nothing_left xs)

equal_is_same : (ls : List (List ℕ)) → are_same ls ls ≡ true
equal_is_same ls = rw (nothing_left ls) refl

pub same_just_where_equal : (expected actual : List (List ℕ)) → (are_same expected actual ≡ true) ↔ (expected ≡ actual)
same_just_where_equal expected actual =
    (same_is_equal expected actual, λ e. rw e (equal_is_same actual))

-- ---- a common prefix

record Shares (expected actual : List (List ℕ)) (d : Difference) : Type 0 where
  prefix : List (List ℕ)
  expected_is : expected ≡ prefix ++ d.expected
  came_is : actual ≡ prefix ++ d.actual

shares_prefix : (expected actual : List (List ℕ)) → Shares expected actual (after_common_prefix expected actual)
unfolding after_common_prefix
shares_prefix [] actual = record { prefix = []; expected_is = refl; came_is = refl }
shares_prefix (x ∷ xs) [] = record { prefix = []; expected_is = refl; came_is = refl }
shares_prefix (x ∷ xs) (y ∷ ys) = go (bytes_eq x y) refl (shares_prefix xs ys) where
  go : (b : Bool) → bytes_eq x y ≡ b → Shares xs ys (after_common_prefix xs ys)
      → Shares (x ∷ xs) (y ∷ ys) (after_common_prefix (x ∷ xs) (y ∷ ys))
  go true t more = rw t (record {
    prefix = x ∷ more.prefix;
    expected_is = ap (λ (ls : List (List ℕ)). x ∷ ls) more.expected_is;
    came_is = ap (λ (line : List ℕ). line ∷ ys) (sym ((bytes_eq-Decides x y).0 t))
        ∙ ap (λ (ls : List (List ℕ)). x ∷ ls) more.came_is;
  })
  go false t more = rw t (record { prefix = []; expected_is = refl; came_is = refl })

again : (expected actual : List (List ℕ))
    → after_common_prefix (after_common_prefix expected actual).expected (after_common_prefix expected actual).actual
    ≡ after_common_prefix expected actual
unfolding after_common_prefix
again [] actual = refl
again (x ∷ xs) [] = refl
again (x ∷ xs) (y ∷ ys) = go (bytes_eq x y) refl (again xs ys) where
  go : (b : Bool) → bytes_eq x y ≡ b
      → after_common_prefix (after_common_prefix xs ys).expected (after_common_prefix xs ys).actual
      ≡ after_common_prefix xs ys
      → after_common_prefix (after_common_prefix (x ∷ xs) (y ∷ ys)).expected
      (after_common_prefix (x ∷ xs) (y ∷ ys)).actual ≡ after_common_prefix (x ∷ xs) (y ∷ ys)
  go true t more = rw t more
  go false t more = rw (t, t) refl

-- lines that begin with no common line do so whatever both end with
still_apart : (xs ys suffix : List (List ℕ))
    → after_common_prefix (xs ++ suffix) (ys ++ suffix) ≡ difference (xs ++ suffix) (ys ++ suffix)
    → after_common_prefix xs ys ≡ difference xs ys
unfolding after_common_prefix
still_apart [] ys suffix e = refl
still_apart (x ∷ xs) [] suffix e = refl
still_apart (x ∷ xs) (y ∷ ys) suffix e = go (bytes_eq x y) refl where
  go : (b : Bool) → bytes_eq x y ≡ b → after_common_prefix (x ∷ xs) (y ∷ ys) ≡ difference (x ∷ xs) (y ∷ ys)
  go true t =
      let shared = shares_prefix (xs ++ suffix) (ys ++ suffix) in
      let left : (after_common_prefix (xs ++ suffix) (ys ++ suffix)).expected ≡ x ∷ (xs ++ suffix) =
      ap (λ (d : Difference). d.expected) (rw t at e) in
      let long = ap length (shared.expected_is ∙ ap (λ (ls : List (List ℕ)). shared.prefix ++ ls) left) in
      absurd (omega (arith, long, length-append shared.prefix (x ∷ (xs ++ suffix))))
  go false t = rw t refl

-- ---- what lies between

rest_ended : (rest p e : List (List ℕ)) → reverse rest ≡ p ++ e → rest ≡ reverse e ++ reverse p
rest_ended rest p e back = sym (reverse-reverse rest) ∙ ap reverse back ∙ reverse-append p e

pub differing_between : (expected actual : List (List ℕ)) → LiesBetween expected actual (differing expected actual)
differing_between expected actual =
    let leading = shares_prefix expected actual in
    let first = after_common_prefix expected actual in
    let back = shares_prefix (reverse first.expected) (reverse first.actual) in
    record {
      prefix = leading.prefix;
      suffix = reverse back.prefix;
      expected_is = joined expected leading.prefix first.expected back.prefix _ leading.expected_is back.expected_is;
      came_is = joined actual leading.prefix first.actual back.prefix _ leading.came_is back.came_is;
    } where
      joined : (all prefix rest p e : List (List ℕ)) → all ≡ prefix ++ rest → reverse rest ≡ p ++ e
          → all ≡ (prefix ++ reverse e) ++ reverse p
      joined all prefix rest p e is back =
          is ∙ ap (λ (ls : List (List ℕ)). prefix ++ ls) (rest_ended rest p e back)
          ∙ sym (append_assoc prefix (reverse e) (reverse p))

pub differing_apart : (expected actual : List (List ℕ)) → IsApart (differing expected actual)
differing_apart expected actual =
    let first = after_common_prefix expected actual in
    let last = after_common_prefix (reverse first.expected) (reverse first.actual) in
    let back = shares_prefix (reverse first.expected) (reverse first.actual) in
    record {
      begins = still_apart (reverse last.expected) (reverse last.actual) (reverse back.prefix)
          (rw (
            ← rest_ended first.expected back.prefix last.expected back.expected_is,
            ← rest_ended first.actual back.prefix last.actual back.came_is,
          ) (again expected actual));
      ends = rw (reverse-reverse last.expected, reverse-reverse last.actual)
          (ap reversed (again (reverse first.expected) (reverse first.actual)));
    }

pub same_just_where_none : (expected actual : List (List ℕ))
    → (are_same expected actual ≡ true) ↔ (differing expected actual ≡ difference [] [])
unfolding after_common_prefix
same_just_where_none expected actual = (none, same) where
  none : are_same expected actual ≡ true → differing expected actual ≡ difference [] []
  none s =
      let e : after_common_prefix expected actual ≡ difference [] [] =
      rw (same_is_equal expected actual s) (nothing_left actual) in
      ap before_common_suffix e

  same : differing expected actual ≡ difference [] [] → are_same expected actual ≡ true
  same d =
      let between = differing_between expected actual in
      let e : expected ≡ (between.prefix ++ []) ++ between.suffix = between.expected_is
      ∙ ap (λ (t : Difference). (between.prefix ++ t.expected) ++ between.suffix) d in
      let c : actual ≡ (between.prefix ++ []) ++ between.suffix = between.came_is
      ∙ ap (λ (t : Difference). (between.prefix ++ t.actual) ++ between.suffix) d in
      (same_just_where_equal expected actual).1 (e ∙ sym c)
