-- Lists of publications that are sorted, and no publication twice in them.
use Rattle.std.proofs.Common.{◌≡◌, ℕ, ◌≤◌, ◌<◌, Bool, true, false, cond, ◌||◌, List, [], ◌∷◌, refl, sym, ap, ◌∙◌, subst}
use Rattle.std.proofs.Common.{suc, get_or, length, ltb, add-one, arith}
use Rattle.std.specs.Prelude.{filter}
use Rattle.std.specs.List.Sorted.{IsPermutation, IsSorted}
use Rattle.std.specs.Ordering.{eq_by_cmp, is_eq, is_lt}
use Rattle.std.specs.declared.cmp.Ordering.{Ordering}
use Rattle.std.specs.declared.cmp.Ordering.TheVariants.{Less, Equal, Greater}
use Rattle.std.proofs.lemmas.Bool.{true≢false, lt-ltb}
use Rattle.std.proofs.lemmas.List.Sums.{length-filter}
use Rattle.std.proofs.lemmas.List.Sorted.{sum_by-IsPermutation}
use Rattle.sorted_lists.specs.SortedList.{contains, Rises}
use Rattle.sorted_lists.proofs.Orders.{greater_back}
use Rattle.sorted_lists.proofs.Sets.{before_more, eq_itself}
use Rattle.repo_plan.specs.Parts.{Pair, pair_cmp}
use Rattle.repo_plan.proofs.Orders.{exact_pairs}
use Rattle.repo_holdings.specs.Taking.{AreApartPairs}

abbrev those : Pair → List Pair → List Pair
those k pairs = filter (eq_by_cmp pair_cmp k) pairs

-- ---- in another order

same_number : (k : Pair) (xs ys : List Pair) → IsPermutation xs ys → length (those k ys) ≡ length (those k xs)
same_number k xs ys p =
    length-filter (eq_by_cmp pair_cmp k) ys
    ∙ sum_by-IsPermutation (λ (q : Pair). cond (eq_by_cmp pair_cmp k q) 1 0) xs ys p
    ∙ sym (length-filter (eq_by_cmp pair_cmp k) xs)

pub apart_permuted : (xs ys : List Pair) → IsPermutation xs ys → AreApartPairs xs → AreApartPairs ys
apart_permuted xs ys p apart = λ k. subst (λ (n : ℕ). n ≤ 1) (sym (same_number k xs ys p)) (apart k)

contains_number : (k : Pair) (xs : List Pair) → contains pair_cmp xs k ≡ ltb 0 (length (those k xs))
contains_number k [] = refl
contains_number k (x ∷ xs) = go (eq_by_cmp pair_cmp k x) (contains_number k xs) where
  go : (b : Bool) → contains pair_cmp xs k ≡ ltb 0 (length (those k xs))
      → (b || contains pair_cmp xs k) ≡ ltb 0 (length (cond b (x ∷ those k xs) (those k xs)))
  go true h = sym (lt-ltb 0 (length (x ∷ those k xs)) (omega arith))
  go false h = h

pub contains_permuted : (k : Pair) (xs ys : List Pair) → IsPermutation xs ys
    → contains pair_cmp ys k ≡ contains pair_cmp xs k
contains_permuted k xs ys p =
    contains_number k ys ∙ ap (λ (n : ℕ). ltb 0 n) (same_number k xs ys p) ∙ sym (contains_number k xs)

-- ---- sorted

apart_rest : (x : Pair) (xs : List Pair) → AreApartPairs (x ∷ xs) → AreApartPairs xs
apart_rest x xs apart = λ k. rest k (eq_by_cmp pair_cmp k x) (apart k) where
  rest : (k : Pair) (b : Bool) → length (cond b (x ∷ those k xs) (those k xs)) ≤ 1 → length (those k xs) ≤ 1
  rest k true h = omega arith
  rest k false h = h

two_of : (k x y : Pair) (zs : List Pair) (b c : Bool) → b ≡ true → c ≡ true
    → length (cond b (x ∷ cond c (y ∷ those k zs) (those k zs)) (cond c (y ∷ those k zs) (those k zs))) ≤ 1 → ⊥
two_of k x y zs true true s t h = absurd (omega arith)
two_of k x y zs false c s t h = absurd (true≢false (sym s))
two_of k x y zs true false s t h = absurd (true≢false (sym t))

rises_first : (x y : Pair) (zs : List Pair) → AreApartPairs (x ∷ y ∷ zs) → is_lt (pair_cmp y x) ≡ false
    → pair_cmp x y ≡ Less
rises_first x y zs apart h = go (pair_cmp x y) refl where
  go : (o : Ordering) → pair_cmp x y ≡ o → o ≡ Less
  go Less e = refl
  go Equal e =
      absurd (two_of x x y zs (eq_by_cmp pair_cmp x x) (eq_by_cmp pair_cmp x y) (eq_itself exact_pairs x)
      (ap is_eq e) (apart x))
  go Greater e = absurd (true≢false (sym (ap is_lt (greater_back exact_pairs.total x y e)) ∙ h))

abbrev IsSortedHere : List Pair → Type 0
IsSortedHere xs =
    (i : ℕ) (d : Pair) → suc i < length xs → is_lt (pair_cmp (get_or xs (suc i) d) (get_or xs i d)) ≡ false

rises_all : (xs : List Pair) → IsSortedHere xs → AreApartPairs xs → Rises pair_cmp xs
rises_all [] s apart = tt
rises_all (x ∷ []) s apart = (tt, tt)
rises_all (x ∷ y ∷ zs) s apart =
    let first = rises_first x y zs apart (s 0 x (omega arith)) in
    let rest : Rises pair_cmp (y ∷ zs) =
    rises_all (y ∷ zs) (λ i d l. s (suc i) d (omega arith)) (apart_rest x (y ∷ zs) apart) in
    ((first, before_more exact_pairs.total x y zs first rest.0), rest)

pub sorted_pairs_rise : (xs : List Pair) → IsSorted pair_cmp xs → AreApartPairs xs → Rises pair_cmp xs
sorted_pairs_rise xs s apart = rises_all xs next apart where
  next : IsSortedHere xs
  next i d l =
      subst (λ (j : ℕ). is_lt (pair_cmp (get_or xs j d) (get_or xs i d)) ≡ false) (add-one i)
      (s i d (omega arith) (omega arith))
