-- What a binary search finds in a map in order, and what an edit at that place makes of it.
use Rattle.std.proofs.Common.{◌≡◌, inl, inr, ℕ, zero, suc, ◌+◌, ◌-◌, ◌<◌, ◌≤◌, true, false, List, [], ◌∷◌, map, length}
use Rattle.std.proofs.Common.{get_or, set, Option, Some, None, unwrap_or, Result, Ok, Err, refl, sym, ap, ◌∙◌, subst}
use Rattle.std.proofs.Common.{arith}
use Rattle.std.specs.List.{insert, remove, HoldsAt, AllWithin}
use Rattle.std.specs.List.Sorted.{IsSearchInRange, IsBinarySearchResult, IsSortedBy}
use Rattle.std.specs.Cmp.{IsTotalOrder}
use Rattle.std.specs.Ordering.{is_le, is_lt, ordering_reverse}
use Rattle.std.specs.declared.cmp.Ordering.{Ordering}
use Rattle.std.specs.declared.cmp.Ordering.TheVariants.{Less, Equal, Greater}
use Rattle.std.proofs.lemmas.List.Sorted.{searchable_from_sorted}
use Rattle.std.proofs.lemmas.Bool.{true≢false, cases_lt}
use Rattle.sorted_lists.specs.SortedList.{by_order, keys, IsBefore, Rises, with_value, without_key, last_up_to}
use Rattle.sorted_lists.specs.SortedList.{first_from}
use Rattle.sorted_lists.proofs.Orders.{less_back, greater_back, equal_back}

-- where a search by key ends: at the key, or at the place between the lesser and the greater ones
pub data Found {K X : Type 0} (R : K → K → Ordering) (key : X → K) (xs : List X) (k : K) : Result ℕ ℕ → Type 0 where
  at_key : (i : ℕ) → i < length xs → HoldsAt (λ x. R (key x) k ≡ Equal) xs i → Found R key xs k (Ok i)
  at_gap : (i : ℕ) → i ≤ length xs → AllWithin (λ x. R (key x) k ≡ Less) xs 0 i
      → AllWithin (λ x. R (key x) k ≡ Greater) xs i (length xs) → Found R key xs k (Err i)

here_kept : {A : Type 0} (c : Ordering) (x y : A) → is_le (ordering_reverse c) ≡ true → by_order c x y y ≡ y
here_kept Less x y h = absurd (true≢false (sym h))
here_kept Equal x y h = refl
here_kept Greater x y h = refl

first_kept : {A : Type 0} (c : Ordering) (x y : A) → (ordering_reverse c ≡ Less → ⊥) → by_order c x x y ≡ x
first_kept Less x y n = refl
first_kept Equal x y n = refl
first_kept Greater x y n = absurd (n refl)

module _ {K : Type 0} {R : K → K → Ordering} (o : IsTotalOrder R) where
  module _ {X : Type 0} (key : X → K) where
    -- neighbours rise
    rises_sorted : (xs : List X) → Rises R (map key xs) → IsSortedBy (λ a b. is_lt (R (key a) (key b))) xs
    rises_sorted [] r k d a b = absurd (omega arith)
    rises_sorted (x ∷ []) r k d a b = absurd (omega arith)
    rises_sorted (x ∷ y ∷ ys) r zero d a b = ap is_lt (less_back o (key x) (key y) r.0.0)
    rises_sorted (x ∷ y ∷ ys) r (suc k) d a b =
        let next : suc (k + 1) ≡ suc k + 1 = omega arith in
        subst (λ (n : ℕ). is_lt (R (key (get_or (x ∷ y ∷ ys) n d)) (key (get_or (x ∷ y ∷ ys) (suc k) d))) ≡ false) next
        (rises_sorted (y ∷ ys) r.1 k d (omega arith) (omega arith))

    pub found : (xs : List X) (k : K) (r : Result ℕ ℕ) → Rises R (map key xs) → IsSearchInRange r (length xs)
        → IsBinarySearchResult (λ x. R (key x) k) xs r → Found R key xs k r
    found xs k (Ok i) rises within equal = at_key i within equal
    found xs k (Err i) rises within parted =
        let point = parted (searchable_from_sorted o key xs k (rises_sorted xs rises)) in
        at_gap i within point.0 point.1

  after_prefix : (k x y : K) → R x y ≡ Less → R y k ≡ Equal → R k x ≡ Greater
  after_prefix k x y before equal = sym (o.congr y k x equal) ∙ less_back o x y before

  module _ {V : Type 0} where
    key_before : (x : K) (es : List (K × V)) (i : ℕ) → IsBefore R x (keys es) → i < length es → (d : K × V)
        → R x (get_or es i d).0 ≡ Less
    key_before x [] i b l d = absurd (omega arith)
    key_before x (e ∷ es) zero b l d = b.0
    key_before x (e ∷ es) (suc i) b l d = key_before x es i b.1 (omega arith) d

    with_value_found : (es : List (K × V)) (k : K) (v : V) (i : ℕ) → Rises R (keys es) → i < length es
        → HoldsAt (λ e. R e.0 k ≡ Equal) es i → with_value R k v es ≡ set es i (k, v)
    with_value_found [] k v i r l h = absurd (omega arith)
    with_value_found (e ∷ es) k v zero r l h =
        ap (λ (c : Ordering). by_order c ((k, v) ∷ e ∷ es) ((k, v) ∷ es) (e ∷ with_value R k v es))
        (equal_back o e.0 k (h e))
    with_value_found (e ∷ es) k v (suc i) r l h =
        ap (λ (c : Ordering). by_order c ((k, v) ∷ e ∷ es) ((k, v) ∷ es) (e ∷ with_value R k v es))
        (after_prefix k e.0 (get_or es i e).0 (key_before e.0 es i r.0 (omega arith) e) (h e))
        ∙ ap (λ (xs : List (K × V)). e ∷ xs) (with_value_found es k v i r.1 (omega arith) h)

    with_value_gap : (es : List (K × V)) (k : K) (v : V) (i : ℕ) → i ≤ length es
        → AllWithin (λ e. R e.0 k ≡ Less) es 0 i → AllWithin (λ e. R e.0 k ≡ Greater) es i (length es)
        → with_value R k v es ≡ insert es i (k, v)
    with_value_gap [] k v zero l below above = refl
    with_value_gap [] k v (suc i) l below above = absurd (omega arith)
    with_value_gap (e ∷ es) k v zero l below above =
        ap (λ (c : Ordering). by_order c ((k, v) ∷ e ∷ es) ((k, v) ∷ es) (e ∷ with_value R k v es))
        (greater_back o e.0 k (above 0 e (omega arith) (omega arith)))
    with_value_gap (e ∷ es) k v (suc i) l below above =
        ap (λ (c : Ordering). by_order c ((k, v) ∷ e ∷ es) ((k, v) ∷ es) (e ∷ with_value R k v es))
        (less_back o e.0 k (below 0 e (omega arith) (omega arith)))
        ∙ ap (λ (xs : List (K × V)). e ∷ xs)
        (with_value_gap es k v i (omega arith) (λ j d a b. below (suc j) d (omega arith) (omega arith))
        (λ j d a b. above (suc j) d (omega arith) (omega arith)))

    without_found : (es : List (K × V)) (k : K) (i : ℕ) → Rises R (keys es) → i < length es
        → HoldsAt (λ e. R e.0 k ≡ Equal) es i → without_key R k es ≡ remove es i
    without_found [] k i r l h = absurd (omega arith)
    without_found (e ∷ es) k zero r l h =
        ap (λ (c : Ordering). by_order c (e ∷ es) es (e ∷ without_key R k es)) (equal_back o e.0 k (h e))
    without_found (e ∷ es) k (suc i) r l h =
        ap (λ (c : Ordering). by_order c (e ∷ es) es (e ∷ without_key R k es))
        (after_prefix k e.0 (get_or es i e).0 (key_before e.0 es i r.0 (omega arith) e) (h e))
        ∙ ap (λ (xs : List (K × V)). e ∷ xs) (without_found es k i r.1 (omega arith) h)

    without_gap : (es : List (K × V)) (k : K) (i : ℕ) → AllWithin (λ e. R e.0 k ≡ Less) es 0 i
        → AllWithin (λ e. R e.0 k ≡ Greater) es i (length es) → without_key R k es ≡ es
    without_gap [] k i below above = refl
    without_gap (e ∷ es) k zero below above =
        ap (λ (c : Ordering). by_order c (e ∷ es) es (e ∷ without_key R k es))
        (greater_back o e.0 k (above 0 e (omega arith) (omega arith)))
    without_gap (e ∷ es) k (suc i) below above =
        ap (λ (c : Ordering). by_order c (e ∷ es) es (e ∷ without_key R k es))
        (less_back o e.0 k (below 0 e (omega arith) (omega arith)))
        ∙ ap (λ (xs : List (K × V)). e ∷ xs)
        (without_gap es k i (λ j d a b. below (suc j) d (omega arith) (omega arith))
        (λ j d a b. above (suc j) d (omega arith) (omega arith)))

    -- what stands in front of a key that is found is less, and what stands after it greater
    below_found : (es : List (K × V)) (k : K) (i : ℕ) → Rises R (keys es) → i < length es
        → HoldsAt (λ e. R e.0 k ≡ Equal) es i → (j : ℕ) (d : K × V) → 0 ≤ j → j < i → R (get_or es j d).0 k ≡ Less
    below_found [] k i r l h j d a b = absurd (omega arith)
    below_found (e ∷ es) k zero r l h j d a b = absurd (omega arith)
    below_found (e ∷ es) k (suc i) r l h zero d a b =
        greater_back o k e.0 (after_prefix k e.0 (get_or es i e).0 (key_before e.0 es i r.0 (omega arith) e) (h e))
    below_found (e ∷ es) k (suc i) r l h (suc j) d a b =
        below_found es k i r.1 (omega arith) h j d (omega arith) (omega arith)

    above_found : (es : List (K × V)) (k : K) (i : ℕ) → Rises R (keys es) → i < length es
        → HoldsAt (λ e. R e.0 k ≡ Equal) es i → (j : ℕ) (d : K × V) → i + 1 ≤ j → j < length es
        → R (get_or es j d).0 k ≡ Greater
    above_found [] k i r l h j d a b = absurd (omega arith)
    above_found (e ∷ es) k i r l h zero d a b = absurd (omega arith)
    above_found (e ∷ es) k zero r l h (suc j) d a b =
        less_back o k (get_or es j d).0
        (sym (o.congr e.0 k (get_or es j d).0 (h e)) ∙ key_before e.0 es j r.0 (omega arith) d)
    above_found (e ∷ es) k (suc i) r l h (suc j) d a b =
        above_found es k i r.1 (omega arith) h j d (omega arith) (omega arith)

    -- the last entry that is not above the key
    last_none : (es : List (K × V)) (k : K) → AllWithin (λ e. R e.0 k ≡ Greater) es 0 (length es)
        → last_up_to R k es ≡ None
    last_none [] k above = refl
    last_none (e ∷ es) k above =
        ap (λ (c : Ordering).
        by_order c None (Some (unwrap_or (last_up_to R k es) e)) (Some (unwrap_or (last_up_to R k es) e)))
        (greater_back o e.0 k (above 0 e (omega arith) (omega arith)))

    last_of : (es : List (K × V)) (k : K) (i : ℕ) → i < length es → AllWithin (λ e. is_le (R e.0 k) ≡ true) es 0 (i + 1)
        → AllWithin (λ e. R e.0 k ≡ Greater) es (i + 1) (length es) → (d : K × V)
        → last_up_to R k es ≡ Some (get_or es i d)
    last_of [] k i l below above d = absurd (omega arith)
    last_of (e ∷ es) k zero l below above d =
        here_kept (R k e.0) None (Some (unwrap_or (last_up_to R k es) e))
        (sym (ap is_le (o.antisymm e.0 k)) ∙ below 0 e (omega arith) (omega arith))
        ∙ ap (λ (x : Option (K × V)). Some (unwrap_or x e))
        (last_none es k (λ j d a b. above (suc j) d (omega arith) (omega arith)))
    last_of (e ∷ es) k (suc i) l below above d =
        here_kept (R k e.0) None (Some (unwrap_or (last_up_to R k es) e))
        (sym (ap is_le (o.antisymm e.0 k)) ∙ below 0 e (omega arith) (omega arith))
        ∙ ap (λ (x : Option (K × V)). Some (unwrap_or x e))
        (last_of es k i (omega arith) (λ j d a b. below (suc j) d (omega arith) (omega arith))
        (λ j d a b. above (suc j) d (omega arith) (omega arith)) d)

    -- the first entry that is not below the key
    first_at_index : (es : List (K × V)) (k : K) (i : ℕ) → i < length es → AllWithin (λ e. R e.0 k ≡ Less) es 0 i
        → HoldsAt (λ e. R e.0 k ≡ Less → ⊥) es i → (d : K × V) → first_from R k es ≡ Some (get_or es i d)
    first_at_index [] k i l below here d = absurd (omega arith)
    first_at_index (e ∷ es) k zero l below here d =
        first_kept (R k e.0) (Some e) (first_from R k es) (λ s. here e (o.antisymm e.0 k ∙ s))
    first_at_index (e ∷ es) k (suc i) l below here d =
        ap (λ (c : Ordering). by_order c (Some e) (Some e) (first_from R k es))
        (less_back o e.0 k (below 0 e (omega arith) (omega arith)))
        ∙ first_at_index es k i (omega arith) (λ j d a b. below (suc j) d (omega arith) (omega arith)) here d

    first_none : (es : List (K × V)) (k : K) → AllWithin (λ e. R e.0 k ≡ Less) es 0 (length es)
        → first_from R k es ≡ None
    first_none [] k below = refl
    first_none (e ∷ es) k below =
        ap (λ (c : Ordering). by_order c (Some e) (Some e) (first_from R k es))
        (less_back o e.0 k (below 0 e (omega arith) (omega arith)))
        ∙ first_none es k (λ j d a b. below (suc j) d (omega arith) (omega arith))

    pub last_at : (es : List (K × V)) (k : K) (i : ℕ) → Rises R (keys es) → Found R (λ e. e.0) es k (Ok i) → (d : K × V)
        → last_up_to R k es ≡ Some (get_or es i d)
    last_at es k i r (at_key j l h) d = last_of es k j l (λ m x a b. elim (cases_lt m j) [
      | inl below ↦ ap is_le (below_found es k j r l h m x (omega arith) below)
      | inr above ↦
          let same : m ≡ j = omega (arith, b, above) in ap is_le (ap (λ (n : ℕ). R (get_or es n x).0 k) same ∙ h x)
    ]) (above_found es k j r l h) d

    pub last_before : (es : List (K × V)) (k : K) (i : ℕ) → 0 < i → Found R (λ e. e.0) es k (Err i) → (d : K × V)
        → last_up_to R k es ≡ Some (get_or es (i - 1) d)
    last_before es k i n (at_gap j l below above) d =
        last_of es k (j - 1) (omega arith) (λ m x a b. ap is_le (below m x a (omega (arith, b, n))))
        (λ m x a b. above m x (omega (arith, a, n)) b) d

    pub none_before : (es : List (K × V)) (k : K) (i : ℕ) → i ≡ 0 → Found R (λ e. e.0) es k (Err i)
        → last_up_to R k es ≡ None
    none_before es k i n (at_gap j l below above) = last_none es k (λ m x a b. above m x (omega (arith, n)) b)

    pub first_at : (es : List (K × V)) (k : K) (i : ℕ) → Rises R (keys es) → Found R (λ e. e.0) es k (Ok i)
        → (d : K × V) → first_from R k es ≡ Some (get_or es i d)
    first_at es k i r (at_key j l h) d =
        first_at_index es k j l (below_found es k j r l h) (λ x s. equal_not_less (sym (h x) ∙ s)) d where
          equal_not_less : Equal ≡ Less → ⊥
          equal_not_less s = cc

    pub first_after : (es : List (K × V)) (k : K) (i : ℕ) → Found R (λ e. e.0) es k (Err i) → i < length es
        → (d : K × V) → first_from R k es ≡ Some (get_or es i d)
    first_after es k i (at_gap j l below above) m d =
        first_at_index es k j m below (λ x s. greater_not_less (sym (above j x (omega arith) m) ∙ s)) d where
          greater_not_less : Greater ≡ Less → ⊥
          greater_not_less s = cc

    pub none_after : (es : List (K × V)) (k : K) (i : ℕ) → Found R (λ e. e.0) es k (Err i) → length es ≤ i
        → first_from R k es ≡ None
    none_after es k i (at_gap j l below above) m = first_none es k (λ n x a b. below n x a (omega (arith, b, m)))

    pub without_at : (es : List (K × V)) (k : K) (i : ℕ) → Rises R (keys es) → Found R (λ e. e.0) es k (Ok i)
        → without_key R k es ≡ remove es i
    without_at es k i r (at_key j l h) = without_found es k j r l h

    pub without_between : (es : List (K × V)) (k : K) (i : ℕ) → Found R (λ e. e.0) es k (Err i)
        → without_key R k es ≡ es
    without_between es k i (at_gap j l below above) = without_gap es k j below above

    pub with_value_at : (es : List (K × V)) (k : K) (v : V) (i : ℕ) → Rises R (keys es) → Found R (λ e. e.0) es k (Ok i)
        → with_value R k v es ≡ set es i (k, v)
    with_value_at es k v i r (at_key j l h) = with_value_found es k v j r l h

    pub with_value_between : (es : List (K × V)) (k : K) (v : V) (i : ℕ) → Found R (λ e. e.0) es k (Err i)
        → with_value R k v es ≡ insert es i (k, v)
    with_value_between es k v i (at_gap j l below above) = with_value_gap es k v j l below above
