-- What a changed map has, beside what it had.
use Rattle.std.proofs.Common.{◌≡◌, suc, ◌+◌, arith, length, cond, List, [], ◌∷◌, Some}
use Rattle.std.proofs.Common.{None, Option, unwrap_or, refl, sym, ap, ◌∙◌}
use Rattle.std.specs.Cmp.{IsTotalOrder}
use Rattle.std.specs.Ordering.{is_eq, eq_by_cmp}
use Rattle.std.specs.declared.cmp.Ordering.{Ordering}
use Rattle.std.specs.declared.cmp.Ordering.TheVariants.{Less, Equal, Greater}
use Rattle.sorted_lists.specs.SortedList.{by_order, keys, IsBefore, Rises, value_of, with_value, without_key}
use Rattle.sorted_lists.specs.SortedList.{last_up_to}
use Rattle.sorted_lists.proofs.Orders.{greater_back}
use Rattle.sorted_lists.proofs.Sets.{before_more}

-- what the last entry up to a key says of the key itself
abbrev pub value_found : {K V : Type 0} → (K → K → Ordering) → K → Option (K × V) → Option V
value_found R k None = None
value_found R k (Some y) = cond (eq_by_cmp R k y.0) (Some y.1) None

module _ {K : Type 0} {R : K → K → Ordering} (o : IsTotalOrder R) where
  before_tied : (x y : K) (ks : List K) → R x y ≡ Equal → IsBefore R y ks → IsBefore R x ks
  before_tied x y [] h b = tt
  before_tied x y (z ∷ zs) h b = (o.congr x y z h ∙ b.0, before_tied x y zs h b.1)

module _ {K V : Type 0} {R : K → K → Ordering} (o : IsTotalOrder R) where
  -- a key before all is none of them
  pub none_value : (k : K) (es : List (K × V)) → IsBefore R k (keys es) → value_of R es k ≡ None
  none_value k [] b = refl
  none_value k (e ∷ es) b = ap (λ c. cond (is_eq c) (Some e.1) (value_of R es k)) b.0 ∙ none_value k es b.1

  none_up_to : (k : K) (es : List (K × V)) → IsBefore R k (keys es) → last_up_to R k es ≡ None
  none_up_to k [] b = refl
  none_up_to k (e ∷ es) b =
      let here : Option (K × V) = Some (unwrap_or (last_up_to R k es) e) in ap (λ c. by_order c None here here) b.0

  -- one look-up finds the value
  pub value_last : (k : K) (es : List (K × V)) → Rises R (keys es)
      → value_of R es k ≡ value_found R k (last_up_to R k es)
  value_last k [] r = refl
  value_last k (e ∷ es) r = go (value_last k es r.1) (R k e.0) refl where
    go : value_of R es k ≡ value_found R k (last_up_to R k es) → (c : Ordering) → R k e.0 ≡ c
        → cond (is_eq c) (Some e.1) (value_of R es k)
        ≡ value_found R k (by_order c None (Some (unwrap_or (last_up_to R k es) e))
        (Some (unwrap_or (last_up_to R k es) e)))
    go i Less p = none_value k es (before_more o k e.0 (keys es) p r.0)
    go i Equal p =
        sym (ap (λ c. cond (is_eq c) (Some e.1) None) p)
        ∙ ap (λ (z : Option (K × V)). value_found R k (Some (unwrap_or z e)))
        (sym (none_up_to k es (before_tied o k e.0 (keys es) p r.0)))
    go i Greater p = i ∙ kept (last_up_to R k es) where
      kept : (z : Option (K × V)) → value_found R k z ≡ value_found R k (Some (unwrap_or z e))
      kept None = sym (ap (λ c. cond (is_eq c) (Some e.1) None) p)
      kept (Some y) = refl

  pub length-without : (k : K) (w : V) (es : List (K × V)) → Rises R (keys es) → value_of R es k ≡ Some w
      → length (without_key R k es) + 1 ≡ length es
  length-without k w [] r h = absurd cc
  length-without k w (e ∷ es) r h = go (length-without k w es r.1) (R k e.0) refl h where
    go : (value_of R es k ≡ Some w → length (without_key R k es) + 1 ≡ length es) → (c : Ordering) → R k e.0 ≡ c
        → cond (is_eq c) (Some e.1) (value_of R es k) ≡ Some w
        → length (by_order c (e ∷ es) es (e ∷ without_key R k es)) + 1 ≡ suc (length es)
    go i Less p g = absurd (clash (sym g ∙ none_value k es (before_more o k e.0 (keys es) p r.0))) where
      clash : Some w ≡ None → ⊥
      clash x = cc
    go i Equal p g = omega arith
    go i Greater p g = omega (arith, i g)

  pub without_absent : (k : K) (es : List (K × V)) → Rises R (keys es) → value_of R es k ≡ None
      → without_key R k es ≡ es
  without_absent k [] r h = refl
  without_absent k (e ∷ es) r h = go (without_absent k es r.1) (R k e.0) refl h where
    go : (value_of R es k ≡ None → without_key R k es ≡ es) → (c : Ordering) → R k e.0 ≡ c
        → cond (is_eq c) (Some e.1) (value_of R es k) ≡ None → by_order c (e ∷ es) es (e ∷ without_key R k es) ≡ e ∷ es
    go i Less p g = refl
    go i Equal p g = absurd cc
    go i Greater p g = ap (λ (zs : List (K × V)). e ∷ zs) (i g)

  -- ---- order

  before_with : (x k : K) (v : V) (es : List (K × V)) → R x k ≡ Less → IsBefore R x (keys es)
      → IsBefore R x (keys (with_value R k v es))
  before_with x k v [] l b = (l, tt)
  before_with x k v (e ∷ es) l b = go (before_with x k v es l b.1) (R k e.0) where
    go : IsBefore R x (keys (with_value R k v es)) → (c : Ordering)
        → IsBefore R x (keys (by_order c ((k, v) ∷ e ∷ es) ((k, v) ∷ es) (e ∷ with_value R k v es)))
    go h Less = (l, b)
    go h Equal = (l, b.1)
    go h Greater = (b.0, h)

  pub rises_with : (k : K) (v : V) (es : List (K × V)) → Rises R (keys es) → Rises R (keys (with_value R k v es))
  rises_with k v [] r = (tt, tt)
  rises_with k v (e ∷ es) r = go (rises_with k v es r.1) (R k e.0) refl where
    go : Rises R (keys (with_value R k v es)) → (c : Ordering) → R k e.0 ≡ c
        → Rises R (keys (by_order c ((k, v) ∷ e ∷ es) ((k, v) ∷ es) (e ∷ with_value R k v es)))
    go h Less p = ((p, before_more o k e.0 (keys es) p r.0), r)
    go h Equal p = (before_tied o k e.0 (keys es) p r.0, r.1)
    go h Greater p = (before_with e.0 k v es (greater_back o k e.0 p) r.0, h)

  before_without : (x k : K) (es : List (K × V)) → IsBefore R x (keys es) → IsBefore R x (keys (without_key R k es))
  before_without x k [] b = tt
  before_without x k (e ∷ es) b = go (before_without x k es b.1) (R k e.0) where
    go : IsBefore R x (keys (without_key R k es)) → (c : Ordering)
        → IsBefore R x (keys (by_order c (e ∷ es) es (e ∷ without_key R k es)))
    go h Less = b
    go h Equal = b.1
    go h Greater = (b.0, h)

  pub rises_without : (k : K) (es : List (K × V)) → Rises R (keys es) → Rises R (keys (without_key R k es))
  rises_without k [] r = tt
  rises_without k (e ∷ es) r = go (rises_without k es r.1) (R k e.0) where
    go : Rises R (keys (without_key R k es)) → (c : Ordering)
        → Rises R (keys (by_order c (e ∷ es) es (e ∷ without_key R k es)))
    go h Less = r
    go h Equal = r.1
    go h Greater = (before_without e.0 k es r.0, h)
