-- Maps in order: two that have the same values are one; and maps that are made of others.
use Rattle.std.proofs.Common.{◌≡◌, Bool, true, false, cond, ◌||◌, List, [], ◌∷◌, refl, sym, ap, ◌∙◌, Option, Some, None}
use Rattle.std.proofs.Common.{is_some, not}
use Rattle.std.specs.List.{filter}
use Rattle.std.specs.Map.{lookup}
use Rattle.std.specs.Option.{option_and_then}
use Rattle.std.specs.Ordering.{eq_by_cmp, is_eq}
use Rattle.std.specs.declared.cmp.Ordering.{Ordering}
use Rattle.std.specs.declared.cmp.Ordering.TheVariants.{Less, Equal, Greater}
use Rattle.sorted_lists.specs.SortedList.{keys, contains, in_order, IsBefore, Rises, value_of}
use Rattle.sorted_lists.proofs.Orders.{Exact, greater_back}
use Rattle.sorted_lists.proofs.Entries.{order_rises, value_in_order}
use Rattle.sorted_lists.proofs.Sets.{before_more, eq_same, eq_itself, rises_keys_filter, value_of-filter}
use Rattle.repo_holdings.specs.KeptValues.{with_kept, kept_values}

-- a key is in a map exactly where it has a value
pub has_value : {K V : Type 0} (R : K → K → Ordering) (es : List (K × V)) (k : K)
    → contains R (keys es) k ≡ is_some (value_of R es k)
has_value R [] k = refl
has_value R (x ∷ es) k = go (eq_by_cmp R k x.0) (has_value R es k) where
  go : (b : Bool) → contains R (keys es) k ≡ is_some (value_of R es k)
      → (b || contains R (keys es) k) ≡ is_some (cond b (Some x.1) (value_of R es k))
  go true h = refl
  go false h = h

module _ {K : Type 0} {R : K → K → Ordering} (e : Exact R) where
  -- a key that is before all others isn't among them
  pub absent : {V : Type 0} (k : K) (es : List (K × V)) → IsBefore R k (keys es) → value_of R es k ≡ None
  absent k [] b = refl
  absent k (x ∷ es) b = ap (λ (o : Ordering). cond (is_eq o) (Some x.1) (value_of R es k)) b.0 ∙ absent k es b.1

  first_value : {V : Type 0} (x : K × V) (es : List (K × V)) → value_of R (x ∷ es) x.0 ≡ Some x.1
  first_value x es = ap (λ (b : Bool). cond b (Some x.1) (value_of R es x.0)) (eq_itself e x.0)

  no_value : {V : Type 0} (v : V) → let n : Option V = None in n ≡ Some v → ⊥
  no_value v h = cc

  same_tail : {V : Type 0} (x y : K × V) (xs ys : List (K × V)) → x.0 ≡ y.0 → IsBefore R x.0 (keys xs)
      → IsBefore R y.0 (keys ys)
      → ((k : K) → value_of R (x ∷ xs) k ≡ value_of R (y ∷ ys) k) → (k : K) → value_of R xs k ≡ value_of R ys k
  same_tail x y xs ys same a b h k = go (eq_by_cmp R k x.0) refl where
    go : (c : Bool) → eq_by_cmp R k x.0 ≡ c → value_of R xs k ≡ value_of R ys k
    go true p =
        let at_x : k ≡ x.0 = eq_same e k x.0 p in
        ap (value_of R xs) at_x ∙ absent x.0 xs a ∙ sym (absent y.0 ys b) ∙ ap (value_of R ys) (sym (at_x ∙ same))
    go false p =
        let q : eq_by_cmp R k y.0 ≡ false = ap (eq_by_cmp R k) (sym same) ∙ p in
        sym (ap (λ (c : Bool). cond c (Some x.1) (value_of R xs k)) p)
        ∙ h k
        ∙ ap (λ (c : Bool). cond c (Some y.1) (value_of R ys k)) q

  -- two maps in order that have the same values are one
  pub same_map : {V : Type 0} (xs ys : List (K × V)) → Rises R (keys xs) → Rises R (keys ys)
      → ((k : K) → value_of R xs k ≡ value_of R ys k) → xs ≡ ys
  same_map [] [] a b h = refl
  same_map [] (y ∷ ys) a b h = absurd (no_value y.1 (h y.0 ∙ first_value y ys))
  same_map (x ∷ xs) [] a b h = absurd (no_value x.1 (sym (h x.0) ∙ first_value x xs))
  same_map {V} (x ∷ xs) (y ∷ ys) a b h = go (λ q. same_map xs ys a.1 b.1 q) (R x.0 y.0) refl where
    heads : x.0 ≡ y.0 → x ≡ y
    heads same =
        let values : Some x.1 ≡ Some y.1 =
        sym (first_value x xs) ∙ h x.0 ∙ ap (value_of R (y ∷ ys)) same ∙ first_value y ys in
        let value : x.1 ≡ y.1 = cc in
        let pairs : (x.0, x.1) ≡ (y.0, y.1) = cc in
        pairs

    go : (((k : K) → value_of R xs k ≡ value_of R ys k) → xs ≡ ys) → (o : Ordering) → R x.0 y.0 ≡ o → x ∷ xs ≡ y ∷ ys
    go tails Less p =
        absurd (no_value x.1
        (sym (absent x.0 (y ∷ ys) (p, before_more e.total x.0 y.0 (keys ys) p b.0)) ∙ sym (h x.0) ∙ first_value x xs))
    go tails Equal p =
        let same = e.same x.0 y.0 p in
        let head : x ≡ y = heads same in
        let tail : xs ≡ ys = tails (same_tail x y xs ys same a.0 b.0 h) in
        cc
    go tails Greater p =
        let q = greater_back e.total x.0 y.0 p in
        absurd (no_value y.1
        (sym (absent y.0 (x ∷ xs) (q, before_more e.total y.0 x.0 (keys xs) q a.0)) ∙ h y.0 ∙ first_value y ys))

  -- ---- what is made of each value

  module _ {V W : Type 0} (f : K → V → Option W) where
    before_kept : (k : K) (es : List (K × V)) → IsBefore R k (keys es) → IsBefore R k (keys (kept_values f es))
    before_kept k [] b = tt
    before_kept k (x ∷ es) b = go (f x.0 x.1) (before_kept k es b.1) where
      go : (o : Option W) → IsBefore R k (keys (kept_values f es))
          → IsBefore R k (keys (with_kept x.0 o (kept_values f es)))
      go None h = h
      go (Some w) h = (b.0, h)

    pub rises_kept : (es : List (K × V)) → Rises R (keys es) → Rises R (keys (kept_values f es))
    rises_kept [] r = tt
    rises_kept (x ∷ es) r = go (rises_kept es r.1) (f x.0 x.1) where
      go : Rises R (keys (kept_values f es)) → (o : Option W) → Rises R (keys (with_kept x.0 o (kept_values f es)))
      go h None = h
      go h (Some w) = (before_kept x.0 es r.0, h)

    pub value_of-kept : (es : List (K × V)) (k : K) → Rises R (keys es)
        → value_of R (kept_values f es) k ≡ option_and_then (f k) (value_of R es k)
    value_of-kept [] k r = refl
    value_of-kept (x ∷ es) k r = go (value_of-kept es k r.1) (eq_by_cmp R k x.0) refl where
      here : k ≡ x.0 → (o : Option W) → f k x.1 ≡ o → value_of R (with_kept x.0 o (kept_values f es)) k ≡ o
      here same None p =
          ap (value_of R (kept_values f es)) same ∙ absent x.0 (kept_values f es) (before_kept x.0 es r.0)
      here same (Some w) p =
          ap (value_of R ((x.0, w) ∷ kept_values f es)) same ∙ first_value (x.0, w) (kept_values f es)

      later : (o : Option W) → eq_by_cmp R k x.0 ≡ false
          → value_of R (with_kept x.0 o (kept_values f es)) k ≡ value_of R (kept_values f es) k
      later None p = refl
      later (Some w) p = ap (λ (c : Bool). cond c (Some w) (value_of R (kept_values f es) k)) p

      go : value_of R (kept_values f es) k ≡ option_and_then (f k) (value_of R es k) → (c : Bool)
          → eq_by_cmp R k x.0 ≡ c
          → value_of R (with_kept x.0 (f x.0 x.1) (kept_values f es)) k
          ≡ option_and_then (f k) (cond c (Some x.1) (value_of R es k))
      go h true p =
          let same = eq_same e k x.0 p in
          ap (λ (q : K). value_of R (with_kept x.0 (f q x.1) (kept_values f es)) k) (sym same)
          ∙ here same (f k x.1) refl
      go h false p = later (f x.0 x.1) p ∙ h

-- a hash map in order of its keys, once one key has nothing
module _ {K V : Type 0} {R : K → K → Ordering} (e : Exact R) (eq : K → K → Bool)
    (ties : (x y : K) → eq x y ≡ eq_by_cmp R x y) (es fs : List (K × V)) where
  pub unset_in_order : (k : K) → ((q : K) → lookup (eq q) fs ≡ cond (eq k q) None (lookup (eq q) es))
      → in_order R fs ≡ filter (λ x. not (eq_by_cmp R k x.0)) (in_order R es)
  unset_in_order k h =
      same_map e (in_order R fs) (filter (λ x. not (eq_by_cmp R k x.0)) (in_order R es)) (order_rises e fs)
      (rises_keys_filter e (λ q. not (eq_by_cmp R k q)) (in_order R es) (order_rises e es)) (λ q.
      value_in_order e eq ties fs q ∙ h q
      ∙ (λ i. cond (ties k q i) None (sym (value_in_order e eq ties es q) i))
      ∙ flipped (eq_by_cmp R k q) (value_of R (in_order R es) q)
      ∙ sym (value_of-filter e (λ z. not (eq_by_cmp R k z)) (in_order R es) q)) where
        flipped : (b : Bool) (o : Option V) → cond b None o ≡ cond (not b) o None
        flipped true o = refl
        flipped false o = refl
