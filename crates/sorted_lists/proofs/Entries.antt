-- A hash map's entries in order of their keys.
use Rattle.std.proofs.Common.{◌≡◌, Bool, true, false, ◌+◌, not, cond, List, [], ◌∷◌, length, Option, Some, None}
use Rattle.std.proofs.Common.{refl, sym, ap, ◌∙◌, arith}
use Rattle.std.specs.List.{filter, AllByRecursion, IsDistinct}
use Rattle.std.specs.Map.{lookup, keys_of}
use Rattle.std.specs.Ordering.{eq_by_cmp, is_eq}
use Rattle.std.specs.declared.cmp.Ordering.{Ordering}
use Rattle.std.specs.declared.cmp.Ordering.TheVariants.{Less, Equal, Greater}
use Rattle.sorted_lists.specs.SortedList.{by_order, keys, Rises, value_of, with_value, in_order}
use Rattle.sorted_lists.proofs.Orders.{Exact, greater_back}
use Rattle.sorted_lists.proofs.Sets.{before_more, eq_same, eq_itself, rises_with_value, rises_keys_filter}
use Rattle.sorted_lists.proofs.Sets.{value_of-with_value, value_of-filter}
use Rattle.sorted_lists.proofs.MapChanges.{none_value}

module _ {K V : Type 0} {R : K → K → Ordering} (e : Exact R) where
  -- ---- two maps in order that have the same are the same

  value_here : (x : K × V) (xs : List (K × V)) → value_of R (x ∷ xs) x.0 ≡ Some x.1
  value_here x xs = ap (λ (b : Bool). cond b (Some x.1) (value_of R xs x.0)) (eq_itself e x.0)

  same_tails : (x y : K × V) (xs ys : List (K × V)) → x.0 ≡ y.0 → Rises R (keys (x ∷ xs)) → Rises R (keys (y ∷ ys))
      → ((q : K) → value_of R (x ∷ xs) q ≡ value_of R (y ∷ ys) q) → (q : K) → value_of R xs q ≡ value_of R ys q
  same_tails x y xs ys s r u h q = go (eq_by_cmp R q x.0) refl (h q) where
    go : (b : Bool) → eq_by_cmp R q x.0 ≡ b
        → cond b (Some x.1) (value_of R xs q) ≡ cond (eq_by_cmp R q y.0) (Some y.1) (value_of R ys q)
        → value_of R xs q ≡ value_of R ys q
    go true p g =
        let same : q ≡ x.0 = eq_same e q x.0 p in
        ap (value_of R xs) same
        ∙ none_value e.total x.0 xs r.0
        ∙ sym (ap (value_of R ys) (same ∙ s) ∙ none_value e.total y.0 ys u.0)
    go false p g = g ∙ ap (λ (b : Bool). cond b (Some y.1) (value_of R ys q)) (sym (ap (eq_by_cmp R q) s) ∙ p)

  none_in : (x y : K × V) (ys : List (K × V)) → R x.0 y.0 ≡ Less → Rises R (keys (y ∷ ys))
      → value_of R (y ∷ ys) x.0 ≡ None
  none_in x y ys l r = none_value e.total x.0 (y ∷ ys) (l, before_more e.total x.0 y.0 (keys ys) l r.0)

  some_not_none : (v : V) (o : Option V) → o ≡ Some v → o ≡ None → ⊥
  some_not_none v o a b = cc

  pub same_maps : (xs ys : List (K × V)) → Rises R (keys xs) → Rises R (keys ys)
      → ((q : K) → value_of R xs q ≡ value_of R ys q) → xs ≡ ys
  same_maps [] [] r u h = refl
  same_maps [] (y ∷ ys) r u h = absurd (some_not_none y.1 None (h y.0 ∙ value_here y ys) refl)
  same_maps (x ∷ xs) [] r u h = absurd (some_not_none x.1 None (sym (h x.0) ∙ value_here x xs) refl)
  same_maps (x ∷ xs) (y ∷ ys) r u h =
      go (R x.0 y.0) refl (λ s. same_maps xs ys r.1 u.1 (same_tails x y xs ys s r u h)) where
        go : (c : Ordering) → R x.0 y.0 ≡ c → (x.0 ≡ y.0 → xs ≡ ys) → (x ∷ xs) ≡ (y ∷ ys)
        go Less p f =
            absurd (some_not_none x.1 (value_of R (y ∷ ys) x.0) (sym (h x.0) ∙ value_here x xs) (none_in x y ys p u))
        go Greater p f =
            absurd (some_not_none y.1 (value_of R (x ∷ xs) y.0) (h y.0 ∙ value_here y ys)
            (none_in y x xs (greater_back e.total x.0 y.0 p) r))
        go Equal p f =
            let s : x.0 ≡ y.0 = e.same x.0 y.0 p in
            let v : x.1 ≡ y.1 =
            some_same x.1 y.1 (sym (value_here x xs) ∙ h x.0 ∙ ap (value_of R (y ∷ ys)) s ∙ value_here y ys) in
            λ i. (s i, v i) ∷ f s i
          where
            some_same : (a b : V) → Some a ≡ Some b → a ≡ b
            some_same a b g = cc

  -- ---- entries in order

  pub order_rises : (es : List (K × V)) → Rises R (keys (in_order R es))
  order_rises [] = tt
  order_rises (x ∷ xs) = rises_with_value e x.0 x.1 (in_order R xs) (order_rises xs)

  module _ (eq : K → K → Bool) (ties : (x y : K) → eq x y ≡ eq_by_cmp R x y) where
    pub value_in_order : (es : List (K × V)) (q : K) → value_of R (in_order R es) q ≡ lookup (eq q) es
    value_in_order [] q = refl
    value_in_order (x ∷ xs) q =
        value_of-with_value e x.0 x.1 (in_order R xs) q
        ∙ (λ i. cond (sym (ties q x.0) i) (Some x.1) (value_in_order xs q i))

    module _ (es fs : List (K × V)) where
      -- entries that give the same
      pub same_in_order : ((q : K) → lookup (eq q) fs ≡ lookup (eq q) es) → in_order R fs ≡ in_order R es
      same_in_order h =
          same_maps (in_order R fs) (in_order R es) (order_rises fs) (order_rises es)
          (λ q. value_in_order fs q ∙ h q ∙ sym (value_in_order es q))

      back_test : (k q : K) → eq k q ≡ eq_by_cmp R q k
      back_test k q = ties k q ∙ swapped (eq_by_cmp R k q) refl (eq_by_cmp R q k) refl where
        swapped : (a : Bool) → eq_by_cmp R k q ≡ a → (b : Bool) → eq_by_cmp R q k ≡ b
            → eq_by_cmp R k q ≡ eq_by_cmp R q k
        swapped true p b g = p ∙ sym (ap (λ (z : K). eq_by_cmp R z k) (sym (eq_same e k q p)) ∙ eq_itself e k)
        swapped false p true g = ap (λ (z : K). eq_by_cmp R k z) (eq_same e q k g) ∙ eq_itself e k ∙ sym g
        swapped false p false g = p ∙ sym g

      -- one more
      pub set_in_order : (k : K) (v : V) → ((q : K) → lookup (eq q) fs ≡ cond (eq k q) (Some v) (lookup (eq q) es))
          → in_order R fs ≡ with_value R k v (in_order R es)
      set_in_order k v h =
          same_maps (in_order R fs) (with_value R k v (in_order R es)) (order_rises fs)
          (rises_with_value e k v (in_order R es) (order_rises es)) (λ q.
          value_in_order fs q ∙ h q
          ∙ (λ i. cond (back_test k q i) (Some v) (sym (value_in_order es q) i))
          ∙ sym (value_of-with_value e k v (in_order R es) q))
