-- Parts that are held, in order.
use Rattle.std.proofs.Common.{◌≡◌, ℕ, zero, suc, ◌+◌, ◌<◌, Bool, true, false, ◌||◌, List, [], ◌∷◌, ◌++◌, map, length}
use Rattle.std.proofs.Common.{Option}
use Rattle.std.proofs.Common.{Some, None, append_assoc, Result, ◌⊎◌, inl, inr, refl, sym, ap, subst, ◌∙◌, arith}
use Rattle.std.specs.Prelude.{is_ok}
use Rattle.std.specs.List.{filter, HoldsAt, AllWithin}
use Rattle.std.specs.List.Sorted.{IsSearchInRange, IsBinarySearchResult}
use Rattle.std.specs.Ordering.{eq_by_cmp, is_eq, is_le, is_lt, nat_cmp, ordering_then}
use Rattle.std.specs.Cmp.{nat_cmp_is}
use Rattle.std.specs.declared.cmp.Ordering.{Ordering}
use Rattle.std.specs.declared.cmp.Ordering.TheVariants.{Less, Equal, Greater}
use Rattle.std.proofs.lemmas.Bool.{cases_lt, or_right}
use Rattle.sorted_lists.specs.SortedList.{contains, Rises}
use Rattle.sorted_lists.proofs.Orders.{less_back, greater_back, equal_back}
use Rattle.sorted_lists.proofs.Search.{Found, found}
use Rattle.sorted_lists.proofs.Search.Found.{at_key, at_gap}
use Rattle.repo_plan.specs.declared.part.Part.{Part}
use Rattle.repo_plan.specs.Parts.{part_cmp}
use Rattle.repo_plan.specs.Plan.{first, is_after}
use Rattle.repo_plan.specs.Leaps.{IsLeastFrom, PassesFrom, is_from}
use Rattle.repo_plan.proofs.Orders.{exact_parts}
use Rattle.repo_plan.proofs.Scans.{after_first}
use Rattle.sorted_lists.specs.Least.{IsFirstBy}
use Rattle.repo_plan.proofs.Leaps.{PassesIn, least_first, one_least}
use Rattle.sorted_lists.proofs.LeastOnes.{first_same}
use Rattle.sorted_lists.proofs.Sets.{contains_in, in_contains}
use Rattle.lab_capture.specs.Held.{AreHeld}

itself : Part → Part
itself t = t

rises_itself : (ts : List Part) → Rises part_cmp ts → Rises part_cmp (map itself ts)
unfolding itself
rises_itself ts r = subst (Rises part_cmp) (sym (same ts)) r where
  same : (us : List Part) → map itself us ≡ us
  same [] = refl
  same (u ∷ us) = ap (λ (rest : List Part). u ∷ rest) (same us)

module _ (k : Part) where
  abbrev has : List Part → Ordering → Bool
  has ts c = is_eq c || contains part_cmp ts k

  has_found : (ts : List Part) (i : ℕ) → i < length ts → HoldsAt (λ t. part_cmp t k ≡ Equal) ts i
      → contains part_cmp ts k ≡ true
  has_found [] i l h = absurd (omega arith)
  has_found (t ∷ ts) zero l h = ap (has ts) (equal_back exact_parts.total t k (h t))
  has_found (t ∷ ts) (suc i) l h =
      or_right (eq_by_cmp part_cmp k t) (contains part_cmp ts k) (has_found ts i (omega arith) h)

  has_gap : (ts : List Part) (i : ℕ) → AllWithin (λ t. part_cmp t k ≡ Less) ts 0 i
      → AllWithin (λ t. part_cmp t k ≡ Greater) ts i (length ts) → contains part_cmp ts k ≡ false
  has_gap [] i below above = refl
  has_gap (t ∷ ts) zero below above =
      ap (has ts) (greater_back exact_parts.total t k (above 0 t (omega arith) (omega arith)))
      ∙ has_gap ts zero (λ j d a b. absurd (omega arith)) (λ j d a b. above (suc j) d (omega arith) (omega arith))
  has_gap (t ∷ ts) (suc i) below above =
      ap (has ts) (less_back exact_parts.total t k (below 0 t (omega arith) (omega arith)))
      ∙ has_gap ts i (λ j d a b. below (suc j) d (omega arith) (omega arith))
      (λ j d a b. above (suc j) d (omega arith) (omega arith))

  has_by : (ts : List Part) (r : Result ℕ ℕ) → Found part_cmp itself ts k r → is_ok r ≡ contains part_cmp ts k
  unfolding itself
  has_by ts r (at_key i l h) = sym (has_found ts i l h)
  has_by ts r (at_gap i l below above) = sym (has_gap ts i below above)

-- a search finds just what is there
pub is_held_by : (k : Part) (ts : List Part) (r : Result ℕ ℕ) → Rises part_cmp ts → IsSearchInRange r (length ts)
    → IsBinarySearchResult (λ t. part_cmp t k) ts r → is_ok r ≡ contains part_cmp ts k
unfolding itself
is_held_by k ts r rises within at =
    has_by k ts r (found exact_parts.total itself ts k r (rises_itself ts rises) within at)

-- ---- the least part

-- the least held part that is not below another is the first of those in order
pub first_held : (has : Part → Bool) (held : List Part) → AreHeld has held → (t : Part) (r : Option Part)
    → IsLeastFrom has t r → r ≡ first (filter (is_from t) held)
first_held has held are t r h =
    one_least (PassesFrom has t) r (first (filter (is_from t) held)) h
    (first_same exact_parts (λ u. u) (PassesIn (is_from t) held) (PassesFrom has t)
    (λ u i. (i.1, are.same u ∙ contains_in exact_parts held u i.0))
    (λ u i. (in_contains exact_parts held u (sym (are.same u) ∙ i.1), i.0))
    (first (filter (is_from t) held)) (least_first (is_from t) held are.in_order))

by_first : (a b : Ordering) (x y : ℕ) → is_le (nat_cmp (x + 1) y) ≡ is_lt (nat_cmp x y)
    → is_le (ordering_then a (ordering_then b (nat_cmp (x + 1) y)))
    ≡ is_lt (ordering_then a (ordering_then b (nat_cmp x y)))
by_first Less b x y e = refl
by_first Greater b x y e = refl
by_first Equal Less x y e = refl
by_first Equal Greater x y e = refl
by_first Equal Equal x y e = e

number_next : (x y : ℕ) → is_le (nat_cmp (x + 1) y) ≡ is_lt (nat_cmp x y)
number_next x y = elim (cases_lt x y) [
  | inl less ↦ elim (cases_lt (x + 1) y) [
    | inl before ↦ sym (ap is_le (nat_cmp_is (x + 1) y Less before)) ∙ ap is_lt (nat_cmp_is x y Less less)
    | inr at ↦ sym (ap is_le (nat_cmp_is (x + 1) y Equal (omega (arith, less, at))))
        ∙ ap is_lt (nat_cmp_is x y Less less)
  ]
  | inr past ↦ elim (cases_lt y x) [
    | inl more ↦ sym (ap is_le (nat_cmp_is (x + 1) y Greater (omega (arith, more))))
        ∙ ap is_lt (nat_cmp_is x y Greater more)
    | inr same ↦ sym (ap is_le (nat_cmp_is (x + 1) y Greater (omega (arith, past))))
        ∙ ap is_lt (nat_cmp_is x y Equal (omega (arith, past, same)))
  ]
]

-- the parts after a part are those that are not below the next part
pub from_next : (t u : Part) → is_from (record t { part = t.part + 1 }) u ≡ is_after (Some t) u
from_next t u = by_first (nat_cmp t.publisher u.publisher) (nat_cmp t.seq u.seq) t.part u.part
    (number_next t.part u.part)

from_zero : (y : ℕ) → (nat_cmp 0 y ≡ Less) ⊎ (nat_cmp 0 y ≡ Equal)
from_zero y = elim (cases_lt 0 y) [
  | inl some ↦ inl (sym (nat_cmp_is 0 y Less some))
  | inr none ↦ inr (sym (nat_cmp_is 0 y Equal (omega (arith, none))))
]

of_zero : (a b c : Ordering) → (a ≡ Less) ⊎ (a ≡ Equal) → (b ≡ Less) ⊎ (b ≡ Equal) → (c ≡ Less) ⊎ (c ≡ Equal)
    → is_le (ordering_then a (ordering_then b c)) ≡ true
of_zero a b c (inl e) f h = rw e refl
of_zero a b c (inr e) (inl f) h = rw (e, f) refl
of_zero a b c (inr e) (inr f) (inl h) = rw (e, f, h) refl
of_zero a b c (inr e) (inr f) (inr h) = rw (e, f, h) refl

-- no part is below the least part
pub from_all : (u : Part) → is_from (record { publisher = 0; seq = 0; part = 0 }) u ≡ true
from_all u = of_zero (nat_cmp 0 u.publisher) (nat_cmp 0 u.seq) (nat_cmp 0 u.part)
    (from_zero u.publisher) (from_zero u.seq) (from_zero u.part)

-- ---- one part after another

module _ (has : Part → Bool) (held : List Part) (are : AreHeld has held) (last : Option Part) where
  pub none_left : None ≡ first (filter (is_after last) held) → filter (is_after last) held ≡ []
  none_left e = go (filter (is_after last) held) (sym e) where
    go : (ts : List Part) → first ts ≡ None → ts ≡ []
    go [] h = refl
    go (t ∷ ts) h = absurd cc

  module _ (t : Part) (e : Some t ≡ first (filter (is_after last) held)) where
    pub next_one : filter (is_after last) held ≡ t ∷ filter (is_after (Some t)) held
    next_one = after_first last held t are.in_order (sym e)

    pub next_small : t.part < 65535
    next_small =
        let P : Option Part → Type 0 = λ r. IsFirstBy part_cmp (λ u. u) (PassesIn (is_after last) held) r in
        let least = subst P (sym e) (least_first (is_after last) held are.in_order) in
        are.small t (contains_in exact_parts held t least.there.0)

    pub fewer_left : length (filter (is_after (Some t)) held) < length (filter (is_after last) held)
    fewer_left = omega (arith, ap length next_one)

    -- it was passed
    pub passed_one : (so_far now : List Part) → so_far ++ filter (is_after last) held ≡ held → now ≡ so_far ++ t ∷ []
        → now ++ filter (is_after (Some t)) held ≡ held
    passed_one so_far now all more =
        ap (λ (ts : List Part). ts ++ filter (is_after (Some t)) held) more
        ∙ append_assoc so_far (t ∷ []) (filter (is_after (Some t)) held)
        ∙ ap (λ (ts : List Part). so_far ++ ts) (sym next_one) ∙ all
