-- Which elements the parts of a list have, and lists that have the same.
use Rattle.std.proofs.Common.{◌≡◌, inl, inr, ℕ, zero, suc, ◌+◌, ◌<◌, ◌≤◌, Bool, true, false, cond, ◌&&◌, List, []}
use Rattle.std.proofs.Common.{◌∷◌, ◌++◌, map, length, get_or, take, drop, Some, None, refl, sym, ap, subst, ◌∙◌, arith}
use Rattle.std.proofs.Common.{append_assoc}
use Rattle.std.specs.Prelude.{slice_get}
use Rattle.std.specs.List.{All, AllWithin, filter, insert}
use Rattle.std.specs.List.Sorted.{IsPermutation}
use Rattle.std.proofs.lemmas.List.{take-append-drop, take_more, take_all, drop_more}
use Rattle.std.proofs.lemmas.List.Elements.{All-nil, All-cons, All-head, All-tail}
use Rattle.std.proofs.lemmas.List.Sorted.{All-permutation, IsPermutation-sym, IsPermutation-insert}
use Rattle.std.proofs.lemmas.List.Sorted.{IsPermutation-middle, IsPermutation-append_comm, IsPermutation-to_front}
use Rattle.sorted_lists.specs.Members.{HaveSame}
use Rattle.sorted_lists.proofs.Sets.{In, in_filter, in_append, append_left, append_right, in_map, from_map}

-- ---- parts

module _ {A : Type 0} where
  pub in_drop : (n : ℕ) (xs : List A) (x : A) → In x (drop n xs) → In x xs
  in_drop n xs x i = subst (In x) (take-append-drop n xs) (append_right (take n xs) (drop n xs) x i)

  pub in_take : (n : ℕ) (xs : List A) (x : A) → In x (take n xs) → In x xs
  in_take n xs x i = subst (In x) (take-append-drop n xs) (append_left (take n xs) (drop n xs) x i)

  pub at_drop : (xs : List A) (i : ℕ) (d : A) → i < length xs → In (get_or xs i d) (drop i xs)
  at_drop xs i d l = subst (In (get_or xs i d)) (sym (drop_more xs i d l)) (inl refl)

  pub in_at : (xs : List A) (i : ℕ) (d : A) → i < length xs → In (get_or xs i d) xs
  in_at xs i d l = in_drop i xs (get_or xs i d) (at_drop xs i d l)

  pub none_first : (xs : List A) → None ≡ slice_get xs 0 → xs ≡ []
  none_first [] h = refl
  none_first (x ∷ xs) h = absurd cc

  pub some_first : (xs : List A) (x : A) → Some x ≡ slice_get xs 0 → xs ≡ x ∷ drop 1 xs
  some_first [] x h = absurd cc
  some_first (y ∷ ys) x h = let same : y ≡ x = cc in ap (λ (z : A). z ∷ ys) same

  -- what holds at the places before one, or from it on, holds of what stands there
  pub in_prefix : (P : A → Type 0) (xs : List A) (n : ℕ) → n ≤ length xs → AllWithin P xs 0 n → (x : A)
      → In x (take n xs) → P x
  in_prefix P xs zero l h x i = absurd i
  in_prefix P [] (suc n) l h x i = absurd i
  in_prefix P (y ∷ ys) (suc n) l h x (inl e) = subst P (sym e) (h 0 y (omega arith) (omega arith))
  in_prefix P (y ∷ ys) (suc n) l h x (inr i) =
      in_prefix P ys n (omega arith) (λ k d a b. h (suc k) d (omega arith) (omega arith)) x i

  pub in_back : (P : A → Type 0) (xs : List A) (n : ℕ) → AllWithin P xs n (length xs) → (x : A) → In x (drop n xs) → P x
  in_back P [] zero h x i = absurd i
  in_back P (y ∷ ys) zero h x (inl e) = subst P (sym e) (h 0 y (omega arith) (omega arith))
  in_back P (y ∷ ys) zero h x (inr i) = in_back P ys zero (λ k d a b. h (suc k) d (omega arith) (omega arith)) x i
  in_back P [] (suc n) h x i = absurd i
  in_back P (y ∷ ys) (suc n) h x i = in_back P ys n (λ k d a b. h (suc k) d (omega arith) (omega arith)) x i

  -- ---- those that pass a test

  pub in_filtered : (p : A → Bool) (xs : List A) (x : A) → In x (filter p xs) → In x xs × (p x ≡ true)
  in_filtered p [] x i = absurd i
  in_filtered p (y ∷ ys) x i = go (in_filtered p ys x) (p y) refl i where
    go : (In x (filter p ys) → In x ys × (p x ≡ true)) → (b : Bool) → p y ≡ b
        → In x (cond b (y ∷ filter p ys) (filter p ys)) → In x (y ∷ ys) × (p x ≡ true)
    go rest true e (inl same) = (inl same, ap p same ∙ e)
    go rest true e (inr j) = let r = rest j in (inr r.0, r.1)
    go rest false e j = let r = rest j in (inr r.0, r.1)

  pub filter_whole : (p : A → Bool) (xs : List A) → ((x : A) → In x xs → p x ≡ true) → filter p xs ≡ xs
  filter_whole p [] all = refl
  filter_whole p (x ∷ xs) all =
      ap (λ (b : Bool). cond b (x ∷ filter p xs) (filter p xs)) (all x (inl refl))
      ∙ ap (λ (ys : List A). x ∷ ys) (filter_whole p xs (λ y i. all y (inr i)))

  pub filter-filter : (p q : A → Bool) (xs : List A) → filter p (filter q xs) ≡ filter (λ x. q x && p x) xs
  filter-filter p q [] = refl
  filter-filter p q (x ∷ xs) = go (q x) (filter-filter p q xs) where
    go : (b : Bool) → filter p (filter q xs) ≡ filter (λ y. q y && p y) xs
        → filter p (cond b (x ∷ filter q xs) (filter q xs))
        ≡ cond (b && p x) (x ∷ filter (λ y. q y && p y) xs) (filter (λ y. q y && p y) xs)
    go true rest = ap (λ (ys : List A). cond (p x) (x ∷ ys) ys) rest
    go false rest = rest

  -- ---- what holds of all

  pub all_in : (P : A → Type 0) (xs : List A) → ((x : A) → In x xs → P x) → All P xs
  all_in P [] each = All-nil P
  all_in P (x ∷ xs) each = All-cons P x xs (each x (inl refl)) (all_in P xs (λ y i. each y (inr i)))

  pub in_all : (P : A → Type 0) (xs : List A) (x : A) → All P xs → In x xs → P x
  in_all P [] x all i = absurd i
  in_all P (y ∷ ys) x all (inl e) = subst P (sym e) (All-head P y ys all)
  in_all P (y ∷ ys) x all (inr i) = in_all P ys x (All-tail P y ys all) i

  -- ---- lists that have the same

  pub same_itself : (xs : List A) → HaveSame xs xs
  same_itself xs = record { there = λ x i. i; back = λ x i. i }

  pub same_is : (xs ys : List A) → xs ≡ ys → HaveSame xs ys
  same_is xs ys e = subst (HaveSame xs) e (same_itself xs)

  pub same_back : {xs ys : List A} → HaveSame xs ys → HaveSame ys xs
  same_back s = record { there = s.back; back = s.there }

  pub same_then : {xs ys zs : List A} → HaveSame xs ys → HaveSame ys zs → HaveSame xs zs
  same_then s t = record { there = λ x i. t.there x (s.there x i); back = λ x i. s.back x (t.back x i) }

  in_both : (xs ys zs ws : List A) → ((x : A) → In x xs → In x ys) → ((x : A) → In x zs → In x ws) → (x : A)
      → In x (xs ++ zs) → In x (ys ++ ws)
  in_both xs ys zs ws f g x i = elim (in_append xs zs x i) [
    | inl j ↦ append_left ys ws x (f x j)
    | inr j ↦ append_right ys ws x (g x j)
  ]

  pub same_append : {xs ys zs ws : List A} → HaveSame xs ys → HaveSame zs ws → HaveSame (xs ++ zs) (ys ++ ws)
  same_append {xs} {ys} {zs} {ws} s t =
      record { there = in_both xs ys zs ws s.there t.there; back = in_both ys xs ws zs s.back t.back }

  pub same_more : (x : A) {xs ys : List A} → HaveSame xs ys → HaveSame (x ∷ xs) (x ∷ ys)
  same_more x s = same_append (same_itself (x ∷ [])) s

  pub same_permutation : (xs ys : List A) → IsPermutation xs ys → HaveSame xs ys
  same_permutation xs ys moved =
      record { there = moves ys xs (IsPermutation-sym xs ys moved); back = moves xs ys moved } where
        moves : (us vs : List A) → IsPermutation us vs → (x : A) → In x vs → In x us
        moves us vs m x i =
            in_all (λ z. In z us) vs x (All-permutation (λ z. In z us) us vs m (all_in (λ z. In z us) us (λ z j. j))) i

  pub same_insert : (xs : List A) (i : ℕ) (x : A) → HaveSame (insert xs i x) (x ∷ xs)
  same_insert xs i x = same_back (same_permutation (x ∷ xs) (insert xs i x) (IsPermutation-insert xs i x))

  pub same_middle : (xs : List A) (x : A) (ys : List A) → HaveSame (xs ++ x ∷ ys) (x ∷ (xs ++ ys))
  same_middle xs x ys = same_permutation (xs ++ x ∷ ys) (x ∷ (xs ++ ys)) (IsPermutation-middle xs x ys)

  pub same_swap : (xs ys : List A) → HaveSame (xs ++ ys) (ys ++ xs)
  same_swap xs ys = same_permutation (xs ++ ys) (ys ++ xs) (IsPermutation-append_comm xs ys)

  pub same_last : (xs : List A) (x : A) → HaveSame (xs ++ x ∷ []) (x ∷ xs)
  same_last xs x = same_permutation (xs ++ x ∷ []) (x ∷ xs) (IsPermutation-to_front xs x)

  pub same_filter : (p q : A → Bool) {xs ys : List A} → HaveSame xs ys → ((x : A) → In x ys → p x ≡ q x)
      → HaveSame (filter p xs) (filter q ys)
  same_filter p q {xs} {ys} s agree = record {
    there =
        λ x i. let r = in_filtered p xs x i in
        let j = s.there x r.0 in
        in_filter q ys x j (sym (agree x j) ∙ r.1);
    back =
        λ x i. let r = in_filtered q ys x i in
        in_filter p xs x (s.back x r.0) (agree x r.0 ∙ r.1);
  }

  -- the old ones and the first `i` of more, to which the next of these comes
  pub same_taken : (old more : List A) (i : ℕ) (d : A) {now next : List A} → i < length more
      → HaveSame next (get_or more i d ∷ now) → HaveSame now (old ++ take i more)
      → HaveSame next (old ++ take (i + 1) more)
  same_taken old more i d {now} {next} l one so_far =
      let x = get_or more i d in
      let far = take i more in
      same_then one (same_then (same_more x so_far) (same_then (same_back (same_last (old ++ far) x))
      (same_is ((old ++ far) ++ x ∷ []) (old ++ take (i + 1) more)
      (append_assoc old far (x ∷ []) ∙ ap (λ (ys : List A). old ++ ys) (sym (take_more more i d l))))))

  pub same_whole : (old more : List A) (i : ℕ) {now : List A} → length more ≤ i → HaveSame now (old ++ take i more)
      → HaveSame now (old ++ more)
  same_whole old more i {now} whole s = subst (λ (ys : List A). HaveSame now (old ++ ys)) (take_all i more whole) s

module _ {A B : Type 0} (f : A → B) where
  map_in : (xs ys : List A) → ((x : A) → In x xs → In x ys) → (y : B) → In y (map f xs) → In y (map f ys)
  map_in xs ys g y i =
      let from : (x : A) × (In x xs) × (y ≡ f x) = from_map f xs y i in
      subst (λ (z : B). In z (map f ys)) (sym from.2) (in_map f ys from.0 (g from.0 from.1))

  -- functions that agree on what a list has
  pub map_same : (g : A → B) (xs : List A) → ((x : A) → In x xs → f x ≡ g x) → map f xs ≡ map g xs
  map_same g [] agree = refl
  map_same g (x ∷ xs) agree = λ i. agree x (inl refl) i ∷ map_same g xs (λ y j. agree y (inr j)) i

  pub same_map : {xs ys : List A} → HaveSame xs ys → HaveSame (map f xs) (map f ys)
  same_map {xs} {ys} s = record { there = map_in xs ys s.there; back = map_in ys xs s.back }
