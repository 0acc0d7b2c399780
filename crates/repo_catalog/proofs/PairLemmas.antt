-- Where a publication stands among publications that are in order.
use Rattle.std.proofs.Common.{◌≡◌, ℕ, zero, suc, ◌<◌, Bool, true, false, ◌||◌, List, [], ◌∷◌, map, length, Result}
use Rattle.std.proofs.Common.{refl, sym, ap, subst, ◌∙◌, arith}
use Rattle.std.specs.Prelude.{is_ok}
use Rattle.std.specs.Cmp.{IsTotalOrder}
use Rattle.std.specs.List.{HoldsAt, AllWithin}
use Rattle.std.specs.List.Sorted.{IsSearchInRange, IsBinarySearchResult}
use Rattle.std.specs.Ordering.{eq_by_cmp, is_eq}
use Rattle.std.specs.declared.cmp.Ordering.{Ordering}
use Rattle.std.specs.declared.cmp.Ordering.TheVariants.{Less, Equal, Greater}
use Rattle.std.proofs.lemmas.Bool.{or_right}
use Rattle.repo_plan.specs.Parts.{Pair, pair_cmp}
use Rattle.repo_plan.proofs.Orders.{exact_pairs}
use Rattle.sorted_lists.specs.SortedList.{contains, Rises}
use Rattle.sorted_lists.proofs.Orders.{less_back, greater_back, equal_back}
use Rattle.sorted_lists.proofs.Search.{Found, found}
use Rattle.sorted_lists.proofs.Search.Found.{at_key, at_gap}

abbrev order : IsTotalOrder pair_cmp
order = exact_pairs.total

abbrev pub itself : Pair → Pair
itself pair = pair

rises_itself : (xs : List Pair) → Rises pair_cmp xs → Rises pair_cmp (map itself xs)
rises_itself xs r = subst (Rises pair_cmp) (sym (same xs)) r where
  same : (ys : List Pair) → map itself ys ≡ ys
  same [] = refl
  same (y ∷ ys) = ap (λ (rest : List Pair). y ∷ rest) (same ys)

module _ (k : Pair) where
  abbrev has : List Pair → Ordering → Bool
  has xs c = is_eq c || contains pair_cmp xs k

  has_found : (xs : List Pair) (i : ℕ) → i < length xs → HoldsAt (λ x. pair_cmp x k ≡ Equal) xs i
      → contains pair_cmp xs k ≡ true
  has_found [] i l h = absurd (omega arith)
  has_found (x ∷ xs) zero l h = ap (has xs) (equal_back order x k (h x))
  has_found (x ∷ xs) (suc i) l h =
      or_right (eq_by_cmp pair_cmp k x) (contains pair_cmp xs k) (has_found xs i (omega arith) h)

  has_gap : (xs : List Pair) (i : ℕ) → AllWithin (λ x. pair_cmp x k ≡ Less) xs 0 i
      → AllWithin (λ x. pair_cmp x k ≡ Greater) xs i (length xs) → contains pair_cmp xs k ≡ false
  has_gap [] i below above = refl
  has_gap (x ∷ xs) zero below above =
      ap (has xs) (greater_back order x k (above 0 x (omega arith) (omega arith)))
      ∙ has_gap xs zero (λ j d a b. absurd (omega arith)) (λ j d a b. above (suc j) d (omega arith) (omega arith))
  has_gap (x ∷ xs) (suc i) below above =
      ap (has xs) (less_back order x k (below 0 x (omega arith) (omega arith)))
      ∙ has_gap xs i (λ j d a b. below (suc j) d (omega arith) (omega arith))
      (λ j d a b. above (suc j) d (omega arith) (omega arith))

  has_by : (xs : List Pair) (r : Result ℕ ℕ) → Found pair_cmp itself xs k r → is_ok r ≡ contains pair_cmp xs k
  has_by xs r (at_key i l h) = sym (has_found xs i l h)
  has_by xs r (at_gap i l below above) = sym (has_gap xs i below above)

pub found_pair : (k : Pair) (xs : List Pair) (r : Result ℕ ℕ) → Rises pair_cmp xs → IsSearchInRange r (length xs)
    → IsBinarySearchResult (λ x. pair_cmp x k) xs r → Found pair_cmp itself xs k r
found_pair k xs r rises within at = found order itself xs k r (rises_itself xs rises) within at

pub is_among_by : (k : Pair) (xs : List Pair) (r : Result ℕ ℕ) → Rises pair_cmp xs → IsSearchInRange r (length xs)
    → IsBinarySearchResult (λ x. pair_cmp x k) xs r → is_ok r ≡ contains pair_cmp xs k
is_among_by k xs r rises within at = has_by k xs r (found_pair k xs r rises within at)
