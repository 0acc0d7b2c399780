-- Sets and maps in order: what they contain after each change, and that they stay in order.
use Rattle.std.proofs.Common.{◌≡◌, ◌⊎◌, inl, inr, Bool, true, false, cond, ◌&&◌, ◌||◌, List, [], ◌∷◌, ◌++◌, map, refl}
use Rattle.std.proofs.Common.{sym, ap, ◌∙◌, subst, Option, Some, None}
use Rattle.std.proofs.lemmas.Bool.{true≢false, or_cases, or_right, or_left}
use Rattle.std.specs.Prelude.{is_some}
use Rattle.std.specs.List.{list_any, filter, flat_map}
use Rattle.std.specs.Cmp.{IsTotalOrder, both_ways}
use Rattle.std.specs.Ordering.{eq_by_cmp, is_eq}
use Rattle.std.specs.declared.cmp.Ordering.{Ordering}
use Rattle.std.specs.declared.cmp.Ordering.TheVariants.{Less, Equal, Greater}
use Rattle.sorted_lists.specs.SortedList.{by_order, keys, IsBefore, Rises, contains, insert_key, insert_keys}
use Rattle.sorted_lists.specs.SortedList.{value_of, with_value}
pub use Rattle.sorted_lists.specs.Members.{In}
use Rattle.sorted_lists.proofs.Orders.{Exact, greater_back, equal_from_is_eq}

or_idem : (a b : Bool) → (a || b) ≡ (a || (a || b))
or_idem true b = refl
or_idem false b = refl

pub or_swap : (a b c : Bool) → (a || (b || c)) ≡ (b || (a || c))
or_swap true true c = refl
or_swap true false c = refl
or_swap false b c = refl

-- ---- order

module _ {K : Type 0} {R : K → K → Ordering} (o : IsTotalOrder R) where
  pub before_more : (k x : K) (xs : List K) → R k x ≡ Less → IsBefore R x xs → IsBefore R k xs
  before_more k x [] l b = tt
  before_more k x (y ∷ ys) l b = (o.trans k x y l b.0, before_more k x ys l b.1)

  before_insert : (x k : K) (xs : List K) → R x k ≡ Less → IsBefore R x xs → IsBefore R x (insert_key R k xs)
  before_insert x k [] l b = (l, tt)
  before_insert x k (y ∷ ys) l b = go (before_insert x k ys l b.1) (R k y) where
    go : IsBefore R x (insert_key R k ys) → (c : Ordering)
        → IsBefore R x (by_order c (k ∷ y ∷ ys) (y ∷ ys) (y ∷ insert_key R k ys))
    go h Less = (l, b)
    go h Equal = b
    go h Greater = (b.0, h)

  pub rises_insert : (k : K) (xs : List K) → Rises R xs → Rises R (insert_key R k xs)
  rises_insert k [] r = (tt, tt)
  rises_insert k (x ∷ xs) r = go (rises_insert k xs r.1) (R k x) refl where
    go : Rises R (insert_key R k xs) → (c : Ordering) → R k x ≡ c
        → Rises R (by_order c (k ∷ x ∷ xs) (x ∷ xs) (x ∷ insert_key R k xs))
    go h Less e = ((e, before_more k x xs e r.0), r)
    go h Equal e = r
    go h Greater e = (before_insert x k xs (greater_back o k x e) r.0, h)

  before_filter : (x : K) (p : K → Bool) (xs : List K) → IsBefore R x xs → IsBefore R x (filter p xs)
  before_filter x p [] b = tt
  before_filter x p (y ∷ ys) b = go (before_filter x p ys b.1) (p y) where
    go : IsBefore R x (filter p ys) → (c : Bool) → IsBefore R x (cond c (y ∷ filter p ys) (filter p ys))
    go h true = (b.0, h)
    go h false = h

  pub rises_filter : (p : K → Bool) (xs : List K) → Rises R xs → Rises R (filter p xs)
  rises_filter p [] r = tt
  rises_filter p (x ∷ xs) r = go (rises_filter p xs r.1) (p x) where
    go : Rises R (filter p xs) → (c : Bool) → Rises R (cond c (x ∷ filter p xs) (filter p xs))
    go h true = (before_filter x p xs r.0, h)
    go h false = h

  before_append : (x : K) (xs ys : List K) → IsBefore R x xs → IsBefore R x ys → IsBefore R x (xs ++ ys)
  before_append x [] ys a b = b
  before_append x (y ∷ xs) ys a b = (a.0, before_append x xs ys a.1 b)

  pub before_each : (x : K) (ys : List K) → ((y : K) → In y ys → R x y ≡ Less) → IsBefore R x ys
  before_each x [] h = tt
  before_each x (y ∷ ys) h = (h y (inl refl), before_each x ys (λ z i. h z (inr i)))

  pub each_before : (x : K) (ys : List K) → IsBefore R x ys → (y : K) → In y ys → R x y ≡ Less
  each_before x [] b y i = absurd i
  each_before x (z ∷ zs) b y (inl e) = ap (R x) e ∙ b.0
  each_before x (z ∷ zs) b y (inr i) = each_before x zs b.1 y i

  pub rises_append : (xs ys : List K) → Rises R xs → Rises R ys → ((x y : K) → In x xs → In y ys → R x y ≡ Less)
      → Rises R (xs ++ ys)
  rises_append [] ys a b h = b
  rises_append (x ∷ xs) ys a b h = (
    before_append x xs ys a.0 (before_each x ys (λ y i. h x y (inl refl) i)),
    rises_append xs ys a.1 b (λ u v p q. h u v (inr p) q),
  )

-- ---- membership

module _ {K : Type 0} {R : K → K → Ordering} (e : Exact R) where
  pub eq_same : (x y : K) → eq_by_cmp R x y ≡ true → x ≡ y
  eq_same x y h = e.same x y (equal_from_is_eq (R x y) h)

  pub eq_itself : (x : K) → eq_by_cmp R x x ≡ true
  eq_itself x = ap is_eq (e.itself x)

  -- a comparison of two keys says the same from either side
  pub eq_turned : (x y : K) → eq_by_cmp R x y ≡ eq_by_cmp R y x
  eq_turned x y = both_ways (eq_by_cmp R x y) (eq_by_cmp R y x) (turn x y) (turn y x) where
    turn : (x y : K) → eq_by_cmp R x y ≡ true → eq_by_cmp R y x ≡ true
    turn x y h = subst (λ (z : K). eq_by_cmp R z x ≡ true) (eq_same x y h) (eq_itself x)

  pub contains-insert_key : (k : K) (xs : List K) (q : K)
      → contains R (insert_key R k xs) q ≡ (eq_by_cmp R q k || contains R xs q)
  contains-insert_key k [] q = refl
  contains-insert_key k (x ∷ xs) q = go (contains-insert_key k xs q) (R k x) refl where
    go : contains R (insert_key R k xs) q ≡ (eq_by_cmp R q k || contains R xs q) → (o : Ordering) → R k x ≡ o
        → list_any (eq_by_cmp R q) (by_order o (k ∷ x ∷ xs) (x ∷ xs) (x ∷ insert_key R k xs))
        ≡ (eq_by_cmp R q k || (eq_by_cmp R q x || contains R xs q))
    go h Less p = refl
    go h Equal p =
        let same : k ≡ x = e.same k x p in
        subst
        (λ (y : K). (eq_by_cmp R q y || contains R xs q) ≡ (eq_by_cmp R q k || (eq_by_cmp R q y || contains R xs q)))
        same (or_idem (eq_by_cmp R q k) (contains R xs q))
    go h Greater p =
        ap (λ (b : Bool). eq_by_cmp R q x || b) h ∙ or_swap (eq_by_cmp R q x) (eq_by_cmp R q k) (contains R xs q)

  pub contains_in : (xs : List K) (q : K) → In q xs → contains R xs q ≡ true
  contains_in [] q i = absurd i
  contains_in (x ∷ xs) q (inl p) =
      or_left (eq_by_cmp R q x) (contains R xs q) (subst (λ (y : K). eq_by_cmp R q y ≡ true) p (eq_itself q))
  contains_in (x ∷ xs) q (inr i) = or_right (eq_by_cmp R q x) (contains R xs q) (contains_in xs q i)

  pub in_contains : (xs : List K) (q : K) → contains R xs q ≡ true → In q xs
  in_contains [] q p = absurd (true≢false (sym p))
  in_contains (x ∷ xs) q p = elim (or_cases (eq_by_cmp R q x) (contains R xs q) p) [
    | inl a ↦ inl (eq_same q x a)
    | inr b ↦ inr (in_contains xs q b)
  ]

  pub contains-filter : (p : K → Bool) (xs : List K) (q : K) → contains R (filter p xs) q ≡ (p q && contains R xs q)
  contains-filter p [] q = and_false (p q) where
    and_false : (b : Bool) → false ≡ (b && false)
    and_false true = refl
    and_false false = refl
  contains-filter p (x ∷ xs) q = go (contains-filter p xs q) (p x) refl (eq_by_cmp R q x) refl where
    go : contains R (filter p xs) q ≡ (p q && contains R xs q) → (b : Bool) → p x ≡ b → (c : Bool) → eq_by_cmp R q x ≡ c
        → contains R (cond b (x ∷ filter p xs) (filter p xs)) q ≡ (p q && (c || contains R xs q))
    go h true a true d =
        ap (λ (z : Bool). z || contains R (filter p xs) q) d
        ∙ sym (ap (λ (z : Bool). z && true) (ap p (eq_same q x d) ∙ a))
    go h true a false d = ap (λ (z : Bool). z || contains R (filter p xs) q) d ∙ h
    go h false a true d =
        h
        ∙ ap (λ (z : Bool). z && contains R xs q) (ap p (eq_same q x d) ∙ a)
        ∙ sym (ap (λ (z : Bool). z && true) (ap p (eq_same q x d) ∙ a))
    go h false a false d = h

-- ---- maps

module _ {K V : Type 0} {R : K → K → Ordering} (e : Exact R) where
  pub keys-with_value : (k : K) (v : V) (es : List (K × V)) → keys (with_value R k v es) ≡ insert_key R k (keys es)
  keys-with_value k v [] = refl
  keys-with_value k v (x ∷ es) = go (keys-with_value k v es) (R k x.0) refl where
    go : keys (with_value R k v es) ≡ insert_key R k (keys es) → (o : Ordering) → R k x.0 ≡ o
        → keys (by_order o ((k, v) ∷ x ∷ es) ((k, v) ∷ es) (x ∷ with_value R k v es))
        ≡ by_order o (k ∷ x.0 ∷ keys es) (x.0 ∷ keys es) (x.0 ∷ insert_key R k (keys es))
    go h Less p = refl
    go h Equal p = ap (λ (y : K). y ∷ keys es) (e.same k x.0 p)
    go h Greater p = ap (λ (ks : List K). x.0 ∷ ks) h

  pub rises_with_value : (k : K) (v : V) (es : List (K × V)) → Rises R (keys es) → Rises R (keys (with_value R k v es))
  rises_with_value k v es r = subst (Rises R) (sym (keys-with_value k v es)) (rises_insert e.total k (keys es) r)

  -- the value under the key is the new one, and the others stay
  pub value_of-with_value : (k : K) (v : V) (es : List (K × V)) (q : K)
      → value_of R (with_value R k v es) q ≡ cond (eq_by_cmp R q k) (Some v) (value_of R es q)
  value_of-with_value k v [] q = refl
  value_of-with_value k v (x ∷ es) q = go (value_of-with_value k v es q) (R k x.0) refl where
    there : (c : Bool) → eq_by_cmp R q k ≡ c → R k x.0 ≡ Equal
        → cond c (Some v) (value_of R es q) ≡ cond c (Some v) (cond (eq_by_cmp R q x.0) (Some x.1) (value_of R es q))
    there true a p = refl
    there false a p =
        sym (ap (λ (z : Bool). cond z (Some x.1) (value_of R es q)) (ap (eq_by_cmp R q) (sym (e.same k x.0 p)) ∙ a))

    later : (c d : Bool) → eq_by_cmp R q x.0 ≡ c → eq_by_cmp R q k ≡ d → R k x.0 ≡ Greater
        → cond c (Some x.1) (cond d (Some v) (value_of R es q)) ≡ cond d (Some v) (cond c (Some x.1) (value_of R es q))
    later true true a b p =
        let same : k ≡ x.0 = sym (eq_same e q k b) ∙ eq_same e q x.0 a in
        absurd (clash (sym (e.itself k) ∙ ap (R k) same ∙ p)) where
          clash : Equal ≡ Greater → ⊥
          clash h = cc
    later true false a b p = refl
    later false d a b p = refl

    go : value_of R (with_value R k v es) q ≡ cond (eq_by_cmp R q k) (Some v) (value_of R es q) → (o : Ordering)
        → R k x.0 ≡ o
        → value_of R (by_order o ((k, v) ∷ x ∷ es) ((k, v) ∷ es) (x ∷ with_value R k v es)) q
        ≡ cond (eq_by_cmp R q k) (Some v) (cond (eq_by_cmp R q x.0) (Some x.1) (value_of R es q))
    go h Less p = refl
    go h Equal p = there (eq_by_cmp R q k) refl p
    go h Greater p =
        ap (λ (z : Option V). cond (eq_by_cmp R q x.0) (Some x.1) z) h
        ∙ later (eq_by_cmp R q x.0) (eq_by_cmp R q k) refl refl p

  pub keys-filter : (p : K → Bool) (es : List (K × V)) → keys (filter (λ x. p x.0) es) ≡ filter p (keys es)
  keys-filter p [] = refl
  keys-filter p (x ∷ es) = go (keys-filter p es) (p x.0) where
    go : keys (filter (λ y. p y.0) es) ≡ filter p (keys es) → (b : Bool)
        → keys (cond b (x ∷ filter (λ y. p y.0) es) (filter (λ y. p y.0) es))
        ≡ cond b (x.0 ∷ filter p (keys es)) (filter p (keys es))
    go h true = ap (λ (ks : List K). x.0 ∷ ks) h
    go h false = h

  pub rises_keys_filter : (p : K → Bool) (es : List (K × V)) → Rises R (keys es)
      → Rises R (keys (filter (λ x. p x.0) es))
  rises_keys_filter p es r = subst (Rises R) (sym (keys-filter p es)) (rises_filter e.total p (keys es) r)

  pub value_of-filter : (p : K → Bool) (es : List (K × V)) (q : K)
      → value_of R (filter (λ x. p x.0) es) q ≡ cond (p q) (value_of R es q) None
  value_of-filter p [] q = none (p q) where
    none : (b : Bool) → let n : Option V = None in n ≡ cond b n n
    none true = refl
    none false = refl
  value_of-filter p (x ∷ es) q = go (value_of-filter p es q) (p x.0) refl (eq_by_cmp R q x.0) refl where
    go : value_of R (filter (λ y. p y.0) es) q ≡ cond (p q) (value_of R es q) None → (b : Bool) → p x.0 ≡ b → (c : Bool)
        → eq_by_cmp R q x.0 ≡ c
        → value_of R (cond b (x ∷ filter (λ y. p y.0) es) (filter (λ y. p y.0) es)) q
        ≡ cond (p q) (cond c (Some x.1) (value_of R es q)) None
    go h true a true d =
        ap (λ (z : Bool). cond z (Some x.1) (value_of R (filter (λ y. p y.0) es) q)) d
        ∙ sym (ap (λ (z : Bool). cond z (Some x.1) None) (ap p (eq_same e q x.0 d) ∙ a))
    go h true a false d = ap (λ (z : Bool). cond z (Some x.1) (value_of R (filter (λ y. p y.0) es) q)) d ∙ h
    go h false a true d =
        h
        ∙ ap (λ (z : Bool). cond z (value_of R es q) None) (ap p (eq_same e q x.0 d) ∙ a)
        ∙ sym (ap (λ (z : Bool). cond z (Some x.1) None) (ap p (eq_same e q x.0 d) ∙ a))
    go h false a false d = h

-- ---- lists

module _ {A : Type 0} where
  pub in_filter : (p : A → Bool) (xs : List A) (x : A) → In x xs → p x ≡ true → In x (filter p xs)
  in_filter p [] x i h = absurd i
  in_filter p (y ∷ ys) x (inl same) h =
      let yes : p y ≡ true = subst (λ (z : A). p z ≡ true) same h in
      subst (λ (b : Bool). In x (cond b (y ∷ filter p ys) (filter p ys))) (sym yes) (inl same)
  in_filter p (y ∷ ys) x (inr i) h = go (in_filter p ys x i h) (p y) where
    go : In x (filter p ys) → (b : Bool) → In x (cond b (y ∷ filter p ys) (filter p ys))
    go r true = inr r
    go r false = r

  pub in_append : (xs ys : List A) (x : A) → In x (xs ++ ys) → In x xs ⊎ In x ys
  in_append [] ys x i = inr i
  in_append (z ∷ zs) ys x (inl e) = inl (inl e)
  in_append (z ∷ zs) ys x (inr i) = elim (in_append zs ys x i) [ inl a ↦ inl (inr a) | inr b ↦ inr b ]

  pub append_left : (xs ys : List A) (x : A) → In x xs → In x (xs ++ ys)
  append_left [] ys x i = absurd i
  append_left (z ∷ zs) ys x (inl e) = inl e
  append_left (z ∷ zs) ys x (inr i) = inr (append_left zs ys x i)

  pub append_right : (xs ys : List A) (x : A) → In x ys → In x (xs ++ ys)
  append_right [] ys x i = i
  append_right (z ∷ zs) ys x i = inr (append_right zs ys x i)

module _ {A B : Type 0} where
  pub in_flat_map : (f : A → List B) (xs : List A) (x : A) (y : B) → In x xs → In y (f x) → In y (flat_map f xs)
  in_flat_map f [] x y i h = absurd i
  in_flat_map f (z ∷ zs) x y (inl e) h = append_left (f z) (flat_map f zs) y (subst (λ (a : A). In y (f a)) e h)
  in_flat_map f (z ∷ zs) x y (inr i) h = append_right (f z) (flat_map f zs) y (in_flat_map f zs x y i h)

  pub from_flat_map : (f : A → List B) (xs : List A) (y : B) → In y (flat_map f xs) → (x : A) × (In x xs) × In y (f x)
  from_flat_map f [] y i = absurd i
  from_flat_map f (z ∷ zs) y i = elim (in_append (f z) (flat_map f zs) y i) [
    | inl a ↦ (z, inl refl, a)
    | inr b ↦ let r : (x : A) × (In x zs) × In y (f x) = from_flat_map f zs y b in (r.0, inr r.1, r.2)
  ]

  pub in_map : (f : A → B) (xs : List A) (x : A) → In x xs → In (f x) (map f xs)
  in_map f [] x i = absurd i
  in_map f (y ∷ ys) x (inl e) = inl (ap f e)
  in_map f (y ∷ ys) x (inr i) = inr (in_map f ys x i)

  pub from_map : (f : A → B) (xs : List A) (y : B) → In y (map f xs) → (x : A) × (In x xs) × (y ≡ f x)
  from_map f [] y i = absurd i
  from_map f (z ∷ zs) y (inl e) = (z, inl refl, e)
  from_map f (z ∷ zs) y (inr i) = let r : (x : A) × (In x zs) × (y ≡ f x) = from_map f zs y i in (r.0, inr r.1, r.2)

pub contains_append : {K : Type 0} (R : K → K → Ordering) (xs ys : List K) (q : K)
    → contains R (xs ++ ys) q ≡ (contains R xs q || contains R ys q)
contains_append R [] ys q = refl
contains_append R (x ∷ xs) ys q = go (eq_by_cmp R q x) (contains_append R xs ys q) where
  go : (b : Bool) → contains R (xs ++ ys) q ≡ (contains R xs q || contains R ys q)
      → (b || contains R (xs ++ ys) q) ≡ ((b || contains R xs q) || contains R ys q)
  go true h = refl
  go false h = h

or_assoc : (a b c : Bool) → (a || (b || c)) ≡ ((a || b) || c)
or_assoc true b c = refl
or_assoc false b c = refl

module _ {K : Type 0} {R : K → K → Ordering} (e : Exact R) where
  -- ---- many keys more

  pub contains-insert_keys : (ks xs : List K) (q : K)
      → contains R (insert_keys R ks xs) q ≡ (contains R ks q || contains R xs q)
  contains-insert_keys [] xs q = refl
  contains-insert_keys (k ∷ ks) xs q =
      contains-insert_key e k (insert_keys R ks xs) q
      ∙ ap (λ (b : Bool). eq_by_cmp R q k || b) (contains-insert_keys ks xs q)
      ∙ or_assoc (eq_by_cmp R q k) (contains R ks q) (contains R xs q)

  pub rises_insert_keys : (ks xs : List K) → Rises R xs → Rises R (insert_keys R ks xs)
  rises_insert_keys [] xs r = r
  rises_insert_keys (k ∷ ks) xs r = rises_insert e.total k (insert_keys R ks xs) (rises_insert_keys ks xs r)

-- a map has something under its keys
pub value_key : {K V : Type 0} (R : K → K → Ordering) (es : List (K × V)) (q : K)
    → is_some (value_of R es q) ≡ contains R (keys es) q
value_key R [] q = refl
value_key R (x ∷ xs) q = go (eq_by_cmp R q x.0) (value_key R xs q) where
  go : (b : Bool) → is_some (value_of R xs q) ≡ contains R (keys xs) q
      → is_some (cond b (Some x.1) (value_of R xs q)) ≡ (b || contains R (keys xs) q)
  go true h = refl
  go false h = h
