-- Runs of keys that follow one another: which keys are in them, and what a longer or a new run makes of them.
use Rattle.std.proofs.Common.{◌≡◌, ◌⊎◌, inl, inr, true, List, [], ◌∷◌, Option, Some, None}
use Rattle.std.proofs.Common.{unwrap_or, refl, sym, ap, ◌∙◌, subst}
use Rattle.std.proofs.lemmas.Bool.{true≢false, and_parts, and_from, or_cases, or_left, or_right}
pub use Rattle.std.specs.Cmp.{both_ways}
use Rattle.std.specs.Ordering.{is_le}
use Rattle.std.specs.declared.cmp.Ordering.{Ordering}
use Rattle.std.specs.declared.cmp.Ordering.TheVariants.{Less, Equal, Greater}
use Rattle.sorted_lists.specs.SortedList.{by_order, keys, IsBefore, Rises, with_value, without_key, last_up_to}
use Rattle.sorted_lists.specs.SortedList.{first_from}
use Rattle.sorted_lists.specs.Runs.{is_within, has}
use Rattle.sorted_lists.proofs.Orders.{Exact, less_back, greater_back}
use Rattle.sorted_lists.proofs.Sets.{In, in_map, each_before}

module _ {K : Type 0} {R : K → K → Ordering} (e : Exact R) where
  abbrev pub Lt : K → K → Type 0
  Lt x y = R x y ≡ Less

  abbrev pub Le : K → K → Type 0
  Le x y = is_le (R x y) ≡ true

  pub tri : (x y : K) → Lt x y ⊎ ((x ≡ y) ⊎ Lt y x)
  tri x y = go (R x y) refl where
    go : (c : Ordering) → R x y ≡ c → Lt x y ⊎ ((x ≡ y) ⊎ Lt y x)
    go Less p = inl p
    go Equal p = inr (inl (e.same x y p))
    go Greater p = inr (inr (greater_back e.total x y p))

  pub lt_le : (x y : K) → Lt x y → Le x y
  lt_le x y p = ap is_le p

  pub le_itself : (x : K) → Le x x
  le_itself x = ap is_le (e.itself x)

  pub lt_irrefl : (x : K) → Lt x x → ⊥
  lt_irrefl x p = clash (sym p ∙ e.itself x) where
    clash : Less ≡ Equal → ⊥
    clash h = cc

  pub le_split : (x y : K) → Le x y → Lt x y ⊎ (x ≡ y)
  le_split x y p = elim (tri x y) [
    | inl a ↦ inl a
    | inr b ↦ elim b [ inl s ↦ inr s | inr g ↦ absurd (true≢false (sym p ∙ ap is_le (less_back e.total y x g))) ]
  ]

  pub lt_trans : (x y z : K) → Lt x y → Lt y z → Lt x z
  lt_trans x y z p q = e.total.trans x y z p q

  pub lt_le_trans : (x y z : K) → Lt x y → Le y z → Lt x z
  lt_le_trans x y z p q = elim (le_split y z q) [ inl a ↦ lt_trans x y z p a | inr s ↦ subst (λ (w : K). Lt x w) s p ]

  pub le_lt_trans : (x y z : K) → Le x y → Lt y z → Lt x z
  le_lt_trans x y z p q =
      elim (le_split x y p) [ inl a ↦ lt_trans x y z a q | inr s ↦ subst (λ (w : K). Lt w z) (sym s) q ]

  pub le_trans : (x y z : K) → Le x y → Le y z → Le x z
  le_trans x y z p q =
      elim (le_split x y p) [ inl a ↦ lt_le x z (lt_le_trans x y z a q) | inr s ↦ subst (λ (w : K). Le w z) (sym s) q ]

  pub lt_not_le : (x y : K) → Lt x y → Le y x → ⊥
  lt_not_le x y p q = lt_irrefl x (lt_le_trans x y x p q)

  -- ---- entries of a map

  module _ {V : Type 0} where
    pub in_with : (k : K) (v : V) (es : List (K × V)) → Rises R (keys es) → (r : K × V) → In r (with_value R k v es)
        → (r ≡ (k, v)) ⊎ ((In r es) × (r.0 ≡ k → ⊥))
    in_with k v [] u r (inl s) = inl s
    in_with k v [] u r (inr i) = absurd i
    in_with k v (x ∷ xs) u r i = go (in_with k v xs u.1 r) (R k x.0) refl i where
      later : (y : K) → Le k y → IsBefore R y (keys xs) → In r xs → r.0 ≡ k → ⊥
      later y l b j s =
          lt_not_le y r.0 (each_before e.total y (keys xs) b r.0 (in_map (λ (z : K × V). z.0) xs r j))
          (subst (λ (w : K). Le w y) (sym s) l)

      go : (In r (with_value R k v xs) → (r ≡ (k, v)) ⊎ ((In r xs) × (r.0 ≡ k → ⊥))) → (c : Ordering) → R k x.0 ≡ c
          → In r (by_order c ((k, v) ∷ x ∷ xs) ((k, v) ∷ xs) (x ∷ with_value R k v xs))
          → (r ≡ (k, v)) ⊎ ((In r (x ∷ xs)) × (r.0 ≡ k → ⊥))
      go h Less p (inl s) = inl s
      go h Less p (inr (inl s)) =
          inr (inl s, λ t. lt_irrefl k (subst (λ (w : K). Lt k w) (sym (ap (λ (z : K × V). z.0) s) ∙ t) p))
      go h Less p (inr (inr j)) = inr (inr j, later x.0 (lt_le k x.0 p) u.0 j)
      go h Equal p (inl s) = inl s
      go h Equal p (inr j) = inr (inr j, later x.0 (ap is_le p) u.0 j)
      go h Greater p (inl s) =
          inr (
            inl s,
            λ t. lt_irrefl k
                (subst (λ (w : K). Lt w k) (sym (ap (λ (z : K × V). z.0) s) ∙ t) (greater_back e.total k x.0 p)),
          )
      go h Greater p (inr j) = elim (h j) [ inl s ↦ inl s | inr b ↦ inr (inr b.0, b.1) ]

    pub with_has : (k : K) (v : V) (es : List (K × V)) → In (k, v) (with_value R k v es)
    with_has k v [] = inl refl
    with_has k v (x ∷ xs) = go (with_has k v xs) (R k x.0) where
      go : In (k, v) (with_value R k v xs) → (c : Ordering)
          → In (k, v) (by_order c ((k, v) ∷ x ∷ xs) ((k, v) ∷ xs) (x ∷ with_value R k v xs))
      go h Less = inl refl
      go h Equal = inl refl
      go h Greater = inr h

    pub with_in : (k : K) (v : V) (es : List (K × V)) (r : K × V) → In r es → (r.0 ≡ k → ⊥) → In r (with_value R k v es)
    with_in k v [] r i n = absurd i
    with_in k v (x ∷ xs) r i n = go (with_in k v xs r) (R k x.0) refl i where
      go : (In r xs → (r.0 ≡ k → ⊥) → In r (with_value R k v xs)) → (c : Ordering) → R k x.0 ≡ c → In r (x ∷ xs)
          → In r (by_order c ((k, v) ∷ x ∷ xs) ((k, v) ∷ xs) (x ∷ with_value R k v xs))
      go h Less p j = inr j
      go h Equal p (inl s) = absurd (n (ap (λ (z : K × V). z.0) s ∙ sym (e.same k x.0 p)))
      go h Equal p (inr j) = inr j
      go h Greater p (inl s) = inl s
      go h Greater p (inr j) = inr (h j n)

    pub in_without : (k : K) (es : List (K × V)) → Rises R (keys es) → (r : K × V) → In r (without_key R k es)
        → (In r es) × (r.0 ≡ k → ⊥)
    in_without k [] u r i = absurd i
    in_without k (x ∷ xs) u r i = go (in_without k xs u.1 r) (R k x.0) refl i where
      later : (y : K) → Le k y → IsBefore R y (keys xs) → In r xs → r.0 ≡ k → ⊥
      later y l b j s =
          lt_not_le y r.0 (each_before e.total y (keys xs) b r.0 (in_map (λ (z : K × V). z.0) xs r j))
          (subst (λ (w : K). Le w y) (sym s) l)

      go : (In r (without_key R k xs) → (In r xs) × (r.0 ≡ k → ⊥)) → (c : Ordering) → R k x.0 ≡ c
          → In r (by_order c (x ∷ xs) xs (x ∷ without_key R k xs)) → (In r (x ∷ xs)) × (r.0 ≡ k → ⊥)
      go h Less p (inl s) =
          (inl s, λ t. lt_irrefl k (subst (λ (w : K). Lt k w) (sym (ap (λ (z : K × V). z.0) s) ∙ t) p))
      go h Less p (inr j) = (inr j, later x.0 (lt_le k x.0 p) u.0 j)
      go h Equal p j = (inr j, later x.0 (ap is_le p) u.0 j)
      go h Greater p (inl s) = (
        inl s,
        λ t.
            lt_irrefl k
            (subst (λ (w : K). Lt w k) (sym (ap (λ (z : K × V). z.0) s) ∙ t) (greater_back e.total k x.0 p)),
      )
      go h Greater p (inr j) = let b : (In r xs) × (r.0 ≡ k → ⊥) = h j in (inr b.0, b.1)

    pub without_in : (k : K) (es : List (K × V)) (r : K × V) → In r es → (r.0 ≡ k → ⊥) → In r (without_key R k es)
    without_in k [] r i n = absurd i
    without_in k (x ∷ xs) r i n = go (without_in k xs r) (R k x.0) refl i where
      go : (In r xs → (r.0 ≡ k → ⊥) → In r (without_key R k xs)) → (c : Ordering) → R k x.0 ≡ c → In r (x ∷ xs)
          → In r (by_order c (x ∷ xs) xs (x ∷ without_key R k xs))
      go h Less p j = j
      go h Equal p (inl s) = absurd (n (ap (λ (z : K × V). z.0) s ∙ sym (e.same k x.0 p)))
      go h Equal p (inr j) = j
      go h Greater p (inl s) = inl s
      go h Greater p (inr j) = inr (h j n)

    -- an entry and one after it
    pub after_head : (x : K × V) (xs : List (K × V)) → Rises R (keys (x ∷ xs)) → (r : K × V) → In r xs → Lt x.0 r.0
    after_head x xs u r i = each_before e.total x.0 (keys xs) u.0 r.0 (in_map (λ (z : K × V). z.0) xs r i)

    pub unique : (es : List (K × V)) → Rises R (keys es) → (a b : K × V) → In a es → In b es → a.0 ≡ b.0 → a ≡ b
    unique [] u a b i j s = absurd i
    unique (x ∷ xs) u a b (inl p) (inl q) s = p ∙ sym q
    unique (x ∷ xs) u a b (inl p) (inr j) s =
        absurd
        (lt_irrefl b.0 (subst (λ (w : K). Lt w b.0) (sym (ap (λ (z : K × V). z.0) p) ∙ s) (after_head x xs u b j)))
    unique (x ∷ xs) u a b (inr i) (inl q) s =
        absurd
        (lt_irrefl a.0 (subst (λ (w : K). Lt w a.0) (sym (ap (λ (z : K × V). z.0) q) ∙ sym s) (after_head x xs u a i)))
    unique (x ∷ xs) u a b (inr i) (inr j) s = unique xs u.1 a b i j s

    -- ---- the last entry that is not above a key, and the first that is not below it

    pub record IsLast (k : K) (es : List (K × V)) (y : K × V) : Type 0 where
      pub is_in : In y es
      pub within : Le y.0 k
      pub others : (r : K × V) → In r es → Le r.0 y.0 ⊎ Lt k r.0

    pub none_up_to : (k : K) (es : List (K × V)) → Rises R (keys es) → last_up_to R k es ≡ None → (r : K × V) → In r es
        → Lt k r.0
    none_up_to k [] u h r i = absurd i
    none_up_to k (x ∷ xs) u h r i = go (R k x.0) refl h i where
      go : (c : Ordering) → R k x.0 ≡ c
          → by_order c None (Some (unwrap_or (last_up_to R k xs) x)) (Some (unwrap_or (last_up_to R k xs) x)) ≡ None
          → In r (x ∷ xs) → Lt k r.0
      go Less p g (inl s) = subst (λ (w : K). Lt k w) (sym (ap (λ (z : K × V). z.0) s)) p
      go Less p g (inr j) = lt_trans k x.0 r.0 p (after_head x xs u r j)
      go Equal p g j = absurd cc
      go Greater p g j = absurd cc

    pub last_is : (k : K) (es : List (K × V)) → Rises R (keys es) → (y : K × V) → last_up_to R k es ≡ Some y
        → IsLast k es y
    last_is k [] u y h = absurd cc
    last_is k (x ∷ xs) u y h = go (last_is k xs u.1) (R k x.0) refl h where
      here : ((z : K × V) → last_up_to R k xs ≡ Some z → IsLast k xs z) → Le x.0 k → (z : Option (K × V))
          → last_up_to R k xs ≡ z → Some (unwrap_or z x) ≡ Some y → IsLast k (x ∷ xs) y
      here n l None q g =
          let s : x ≡ y = cc in
          subst (IsLast k (x ∷ xs)) s (record {
            is_in = inl refl;
            within = l;
            others = λ r i. elim i [
              | inl t ↦ inl (subst (λ (w : K × V). Le w.0 x.0) (sym t) (le_itself x.0))
              | inr j ↦ inr (none_up_to k xs u.1 q r j)
            ];
          })
      here n l (Some z) q g =
          let s : z ≡ y = cc in
          let rest : IsLast k xs z = n z q in
          subst (IsLast k (x ∷ xs)) s (record {
            is_in = inr rest.is_in;
            within = rest.within;
            others = λ r i. elim i [
              | inl t ↦
                  inl (subst (λ (w : K × V). Le w.0 z.0) (sym t) (lt_le x.0 z.0 (after_head x xs u z rest.is_in)))
              | inr j ↦ rest.others r j
            ];
          })

      go : ((z : K × V) → last_up_to R k xs ≡ Some z → IsLast k xs z) → (c : Ordering) → R k x.0 ≡ c
          → by_order c None (Some (unwrap_or (last_up_to R k xs) x)) (Some (unwrap_or (last_up_to R k xs) x)) ≡ Some y
          → IsLast k (x ∷ xs) y
      go n Less p g = absurd cc
      go n Equal p g =
          here n (subst (λ (w : K). Le x.0 w) (sym (e.same k x.0 p)) (le_itself x.0)) (last_up_to R k xs) refl g
      go n Greater p g = here n (lt_le x.0 k (greater_back e.total k x.0 p)) (last_up_to R k xs) refl g

    pub record IsFirst (k : K) (es : List (K × V)) (y : K × V) : Type 0 where
      pub is_in : In y es
      pub above : Le k y.0
      pub others : (r : K × V) → In r es → Lt r.0 k ⊎ Le y.0 r.0

    pub none_from_on : (k : K) (es : List (K × V)) → first_from R k es ≡ None → (r : K × V) → In r es → Lt r.0 k
    none_from_on k [] h r i = absurd i
    none_from_on k (x ∷ xs) h r i = go (none_from_on k xs) (R k x.0) refl h i where
      go : (first_from R k xs ≡ None → (r : K × V) → In r xs → Lt r.0 k) → (c : Ordering) → R k x.0 ≡ c
          → by_order c (Some x) (Some x) (first_from R k xs) ≡ None → In r (x ∷ xs) → Lt r.0 k
      go n Less p g j = absurd cc
      go n Equal p g j = absurd cc
      go n Greater p g (inl s) =
          subst (λ (w : K). Lt w k) (sym (ap (λ (z : K × V). z.0) s)) (greater_back e.total k x.0 p)
      go n Greater p g (inr j) = n g r j

    pub first_is : (k : K) (es : List (K × V)) → Rises R (keys es) → (y : K × V) → first_from R k es ≡ Some y
        → IsFirst k es y
    first_is k [] u y h = absurd cc
    first_is k (x ∷ xs) u y h = go (first_is k xs u.1 y) (R k x.0) refl h where
      here : Le k x.0 → x ≡ y → IsFirst k (x ∷ xs) y
      here l s =
          subst (IsFirst k (x ∷ xs)) s (record {
            is_in = inl refl;
            above = l;
            others = λ r i. elim i [
              | inl t ↦ inr (subst (λ (w : K × V). Le x.0 w.0) (sym t) (le_itself x.0))
              | inr j ↦ inr (lt_le x.0 r.0 (after_head x xs u r j))
            ];
          })

      go : (first_from R k xs ≡ Some y → IsFirst k xs y) → (c : Ordering) → R k x.0 ≡ c
          → by_order c (Some x) (Some x) (first_from R k xs) ≡ Some y → IsFirst k (x ∷ xs) y
      go n Less p g = here (lt_le k x.0 p) cc
      go n Equal p g = here (ap is_le p) cc
      go n Greater p g =
          let rest : IsFirst k xs y = n g in
          record {
            is_in = inr rest.is_in;
            above = rest.above;
            others = λ r i. elim i [
              | inl t ↦ inl (subst (λ (w : K × V). Lt w.0 k) (sym t) (greater_back e.total k x.0 p))
              | inr j ↦ rest.others r j
            ];
          }

  -- ---- which keys are in runs

  pub has_in : (es : List (K × K)) (q : K) (r : K × K) → In r es → Le r.0 q → Le q r.1 → has R es q ≡ true
  has_in [] q r i a b = absurd i
  has_in (x ∷ xs) q r (inl s) a b =
      or_left (is_within R q x) (has R xs q)
      (subst (λ (w : K × K). is_within R q w ≡ true) s (and_from (is_le (R r.0 q)) (is_le (R q r.1)) a b))
  has_in (x ∷ xs) q r (inr i) a b = or_right (is_within R q x) (has R xs q) (has_in xs q r i a b)

  pub record IsIn (es : List (K × K)) (q : K) : Type 0 where
    pub run : K × K
    pub is_in : In run es
    pub above : Le run.0 q
    pub within : Le q run.1

  pub has_from : (es : List (K × K)) (q : K) → has R es q ≡ true → IsIn es q
  has_from [] q h = absurd (true≢false (sym h))
  has_from (x ∷ xs) q h = elim (or_cases (is_within R q x) (has R xs q) h) [
    | inl a ↦
        let b : Le x.0 q × Le q x.1 = and_parts (is_le (R x.0 q)) (is_le (R q x.1)) a in
        record { run = x; is_in = inl refl; above = b.0; within = b.1 }
    | inr b ↦
        let r : IsIn xs q = has_from xs q b in
        record { run = r.run; is_in = inr r.is_in; above = r.above; within = r.within }
  ]
