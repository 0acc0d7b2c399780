-- What a map has under a key, and what it has after a change, as what stands in its list.
use Rattle.std.proofs.Common.{◌≡◌, ◌⊎◌, inl, inr, Bool, true, false, cond, List, [], ◌∷◌, map, Option, Some, None}
use Rattle.std.proofs.Common.{◌++◌, option_map, length, suc, refl, sym, ap, subst, ◌∙◌}
use Rattle.std.specs.Prelude.{is_some}
use Rattle.std.specs.List.{filter, find}
use Rattle.std.specs.Ordering.{eq_by_cmp}
use Rattle.std.specs.declared.cmp.Ordering.{Ordering}
use Rattle.std.specs.declared.cmp.Ordering.TheVariants.{Less, Equal, Greater}
use Rattle.std.proofs.lemmas.List.{append-nil}
use Rattle.std.proofs.lemmas.Bool.{true≢false}
use Rattle.std.specs.Cmp.{both_ways}
use Rattle.sorted_lists.specs.SortedList.{by_order, keys, Rises, contains, insert_key, insert_keys, value_of}
use Rattle.sorted_lists.specs.SortedList.{with_value, without_key}
use Rattle.sorted_lists.specs.Members.{In, HaveSame}
use Rattle.sorted_lists.proofs.Orders.{Exact}
use Rattle.sorted_lists.proofs.Sets.{eq_same, contains-insert_key, contains_in}
use Rattle.sorted_lists.proofs.Sets.{in_contains, in_map, from_map, keys-with_value, value_key, rises_insert}
use Rattle.sorted_lists.proofs.Sets.{rises_insert_keys}
use Rattle.sorted_lists.proofs.RunOrder.{in_with, with_has, with_in, in_without, without_in, unique}
use Rattle.sorted_lists.proofs.SameSets.{same_sets}
use Rattle.sorted_lists.proofs.Members.{same_itself, same_is, same_back, same_then, same_more}

-- ---- sets

module _ {K : Type 0} {R : K → K → Ordering} (e : Exact R) where
  pub same_insert_key : (k : K) (ks : List K) → HaveSame (insert_key R k ks) (k ∷ ks)
  same_insert_key k ks = record {
    there =
        λ q i. in_contains e (k ∷ ks) q (sym (contains-insert_key e k ks q) ∙ contains_in e (insert_key R k ks) q i);
    back = λ q i. in_contains e (insert_key R k ks) q (contains-insert_key e k ks q ∙ contains_in e (k ∷ ks) q i);
  }

  -- lists that have the same are one set
  pub one_set : (xs ys : List K) → Rises R xs → Rises R ys → HaveSame xs ys → xs ≡ ys
  one_set xs ys r s h = same_sets e xs ys r s (λ q. both_ways (contains R xs q) (contains R ys q)
      (λ c. contains_in e ys q (h.there q (in_contains e xs q c)))
      (λ c. contains_in e xs q (h.back q (in_contains e ys q c))))

  -- a key that is there makes no difference
  pub insert_there : (k : K) (ks : List K) → Rises R ks → In k ks → insert_key R k ks ≡ ks
  insert_there k ks r i = one_set (insert_key R k ks) ks (rises_insert e.total k ks r) r (record {
    there = λ q j. elim (let h : (q ≡ k) ⊎ In q ks = (same_insert_key k ks).there q j in h) [
      | inl same ↦ subst (λ (x : K). In x ks) (sym same) i
      | inr h ↦ h
    ];
    back = λ q j. (same_insert_key k ks).back q (inr j);
  })

  pub same_insert_keys : (ks xs : List K) → HaveSame (insert_keys R ks xs) (ks ++ xs)
  same_insert_keys [] xs = same_itself xs
  same_insert_keys (k ∷ ks) xs =
      same_then (same_insert_key k (insert_keys R ks xs)) (same_more k (same_insert_keys ks xs))

  same_set : (ks : List K) → HaveSame (insert_keys R ks []) ks
  same_set ks = same_then (same_insert_keys ks []) (same_is (ks ++ []) ks (append-nil ks))

  pub set_same : (xs ys : List K) → HaveSame xs ys → insert_keys R xs [] ≡ insert_keys R ys []
  set_same xs ys h =
      one_set (insert_keys R xs []) (insert_keys R ys []) (rises_insert_keys e xs [] tt) (rises_insert_keys e ys [] tt)
      (same_then (same_set xs) (same_then h (same_back (same_set ys))))

  insert_fresh : (k : K) (ks : List K) → (In k ks → ⊥) → length (insert_key R k ks) ≡ suc (length ks)
  insert_fresh k [] fresh = refl
  insert_fresh k (x ∷ xs) fresh = go (insert_fresh k xs (λ i. fresh (inr i))) (R k x) refl where
    go : length (insert_key R k xs) ≡ suc (length xs) → (o : Ordering) → R k x ≡ o
        → length (by_order o (k ∷ x ∷ xs) (x ∷ xs) (x ∷ insert_key R k xs)) ≡ suc (suc (length xs))
    go rest Less p = refl
    go rest Equal p = absurd (fresh (inl (e.same k x p)))
    go rest Greater p = ap suc rest

  -- the list has nothing twice
  abbrev pub AreDifferent : List K → Type 0
  AreDifferent [] = Unit {0}
  AreDifferent (x ∷ xs) = (In x xs → ⊥) × AreDifferent xs

  pub set_length : (xs : List K) → AreDifferent xs → length (insert_keys R xs []) ≡ length xs
  set_length [] d = refl
  set_length (x ∷ xs) d =
      insert_fresh x (insert_keys R xs []) (λ i. d.0 ((same_set xs).there x i)) ∙ ap suc (set_length xs d.1)

-- ---- maps

module _ {K V : Type 0} {R : K → K → Ordering} (e : Exact R) where
  pub there_value : (es : List (K × V)) (k : K) (v : V) → value_of R es k ≡ Some v → In (k, v) es
  there_value [] k v is = absurd cc
  there_value (y ∷ es) k v is = go (eq_by_cmp R k y.0) refl is (there_value es k v) where
    go : (b : Bool) → eq_by_cmp R k y.0 ≡ b → cond b (Some y.1) (value_of R es k) ≡ Some v
        → (value_of R es k ≡ Some v → In (k, v) es) → In (k, v) (y ∷ es)
    go true same is rest = let at : y.1 ≡ v = cc in inl (λ i. (eq_same e k y.0 same i, sym at i))
    go false other is rest = inr (rest is)

  pub none_where : (es : List (K × V)) (k : K) → contains R (keys es) k ≡ false → value_of R es k ≡ None
  none_where es k lacks = go (value_of R es k) (value_key R es k ∙ lacks) where
    go : (o : Option V) → is_some o ≡ false → o ≡ None
    go None h = refl
    go (Some v) h = absurd (true≢false h)

  pub value_there : (es : List (K × V)) (x : K × V) → Rises R (keys es) → In x es → value_of R es x.0 ≡ Some x.1
  value_there es x r i = go (value_of R es x.0) refl where
    go : (o : Option V) → value_of R es x.0 ≡ o → o ≡ Some x.1
    go None h =
        absurd (true≢false (sym (contains_in e (keys es) x.0 (in_map (λ (y : K × V). y.0) es x i))
        ∙ sym (value_key R es x.0) ∙ ap is_some h))
    go (Some v) h = ap (λ (y : K × V). Some y.1) (unique e es r (x.0, v) x (there_value es x.0 v h) i refl)

  -- one more, under a key that has nothing yet
  pub same_with : (k : K) (v : V) (es : List (K × V)) → Rises R (keys es) → value_of R es k ≡ None
      → HaveSame (with_value R k v es) ((k, v) ∷ es)
  same_with k v es r none = record {
    there = λ y i. elim (in_with e k v es r y i) [ inl own ↦ inl own | inr j ↦ inr j.0 ];
    back = λ y i. elim (let j : (y ≡ (k, v)) ⊎ In y es = i in j) [
      | inl own ↦ subst (λ (z : K × V). In z (with_value R k v es)) (sym own) (with_has e k v es)
      | inr j ↦ with_in e k v es y j (λ same.
          let some = value_there es y r j in
          let is : value_of R es y.0 ≡ None = ap (value_of R es) same ∙ none in absurd cc)
    ];
  }

  pub same_keys_with : (k : K) (v : V) (es : List (K × V)) → HaveSame (keys (with_value R k v es)) (k ∷ keys es)
  same_keys_with k v es =
      same_then (same_is (keys (with_value R k v es)) (insert_key R k (keys es)) (keys-with_value e k v es))
      (same_insert_key e k (keys es))

  -- one less
  pub in_keys_without : (k : K) (es : List (K × V)) (q : K) → Rises R (keys es) → In q (keys (without_key R k es))
      → In q (keys es) × (q ≡ k → ⊥)
  in_keys_without k es q r i =
      let from = from_map (λ (y : K × V). y.0) (without_key R k es) q i in
      let there = in_without e k es r from.0 from.1 in (
        subst (λ (z : K). In z (keys es)) (sym from.2) (in_map (λ (y : K × V). y.0) es from.0 there.0),
        λ same. there.1 (sym from.2 ∙ same),
      )

  pub keys_without_in : (k : K) (es : List (K × V)) (q : K) → (q ≡ k → ⊥) → In q (keys es)
      → In q (keys (without_key R k es))
  keys_without_in k es q other i =
      let from = from_map (λ (y : K × V). y.0) es q i in
      subst (λ (z : K). In z (keys (without_key R k es))) (sym from.2)
      (in_map (λ (y : K × V). y.0) (without_key R k es) from.0
      (without_in e k es from.0 from.1 (λ same. other (from.2 ∙ same))))

-- ---- a map with other values under the same keys

module _ {K V W : Type 0} (R : K → K → Ordering) (f : V → W) where
  abbrev pub revalued : List (K × V) → List (K × W)
  revalued es = map (λ (y : K × V). (y.0, f y.1)) es

  pub keys-revalued : (es : List (K × V)) → keys (revalued es) ≡ keys es
  keys-revalued [] = refl
  keys-revalued (y ∷ es) = ap (λ (ks : List K). y.0 ∷ ks) (keys-revalued es)

  pub value_of-revalued : (es : List (K × V)) (k : K) → value_of R (revalued es) k ≡ option_map f (value_of R es k)
  value_of-revalued [] k = refl
  value_of-revalued (y ∷ es) k = go (eq_by_cmp R k y.0) (value_of-revalued es k) where
    go : (b : Bool) → value_of R (revalued es) k ≡ option_map f (value_of R es k)
        → cond b (Some (f y.1)) (value_of R (revalued es) k) ≡ option_map f (cond b (Some y.1) (value_of R es k))
    go true rest = refl
    go false rest = rest

  pub with_value-revalued : (k : K) (v : V) (es : List (K × V))
      → revalued (with_value R k v es) ≡ with_value R k (f v) (revalued es)
  with_value-revalued k v [] = refl
  with_value-revalued k v (y ∷ es) = go (R k y.0) (with_value-revalued k v es) where
    go : (o : Ordering) → revalued (with_value R k v es) ≡ with_value R k (f v) (revalued es)
        → revalued (by_order o ((k, v) ∷ y ∷ es) ((k, v) ∷ es) (y ∷ with_value R k v es))
        ≡ by_order o ((k, f v) ∷ (y.0, f y.1) ∷ revalued es) ((k, f v) ∷ revalued es)
        ((y.0, f y.1) ∷ with_value R k (f v) (revalued es))
    go Less rest = refl
    go Equal rest = refl
    go Greater rest = ap (λ (zs : List (K × W)). (y.0, f y.1) ∷ zs) rest

  pub filter-revalued : (p : K → Bool) (es : List (K × V))
      → revalued (filter (λ y. p y.0) es) ≡ filter (λ y. p y.0) (revalued es)
  filter-revalued p [] = refl
  filter-revalued p (y ∷ es) = go (p y.0) (filter-revalued p es) where
    go : (b : Bool) → revalued (filter (λ z. p z.0) es) ≡ filter (λ z. p z.0) (revalued es)
        → revalued (cond b (y ∷ filter (λ z. p z.0) es) (filter (λ z. p z.0) es))
        ≡ cond b ((y.0, f y.1) ∷ filter (λ z. p z.0) (revalued es)) (filter (λ z. p z.0) (revalued es))
    go true rest = ap (λ (zs : List (K × W)). (y.0, f y.1) ∷ zs) rest
    go false rest = rest

  pub find-revalued : (test : W → Bool) (es : List (K × V))
      → option_map (λ y. y.1) (find (λ y. test y.1) (revalued es))
      ≡ option_map (λ y. f y.1) (find (λ y. test (f y.1)) es)
  find-revalued test [] = refl
  find-revalued test (y ∷ es) = go (test (f y.1)) (find-revalued test es) where
    go : (b : Bool)
        → option_map (λ z. z.1) (find (λ z. test z.1) (revalued es))
        ≡ option_map (λ z. f z.1) (find (λ z. test (f z.1)) es)
        → option_map (λ z. z.1) (cond b (Some (y.0, f y.1)) (find (λ z. test z.1) (revalued es)))
        ≡ option_map (λ z. f z.1) (cond b (Some y) (find (λ z. test (f z.1)) es))
    go true rest = refl
    go false rest = rest
