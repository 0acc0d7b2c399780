-- What a look-up or a change makes of blocks that stand in order, at the block that the key belongs into.
use Rattle.std.specs.Prelude.{is_some}
use Rattle.std.proofs.Common.{◌≡◌, ◌≤◌, ◌<◌, ◌+◌, ◌-◌, ◌*◌, ℕ, zero, suc, arith, length, take, set, get_or, true}
use Rattle.std.proofs.Common.{false, List, [], ◌∷◌, ◌++◌, Option, Some, None, unwrap_or, refl, sym, ap, ◌∙◌, subst}
use Rattle.std.proofs.Common.{Vec}
use Rattle.std.specs.List.{All, insert, remove}
use Rattle.std.specs.Bool.{◌==◌}
use Rattle.std.specs.Cmp.{IsTotalOrder}
use Rattle.std.specs.Ordering.{is_le, ordering_reverse}
use Rattle.std.specs.List.{AllWithin, slice_get}
use Rattle.std.specs.List.Sorted.{IsPartitionedBy}
use Rattle.std.proofs.lemmas.Bool.{true≢false}
use Rattle.std.proofs.lemmas.Cmp.{alike_right}
use Rattle.std.proofs.lemmas.List.{append_assoc, length-append}
use Rattle.std.specs.declared.cmp.Ordering.{Ordering}
use Rattle.std.specs.declared.cmp.Ordering.TheVariants.{Less, Equal, Greater}
use Rattle.sorted_lists.specs.SortedList.{by_order, keys, IsBefore, Rises, with_value, without_key, last_up_to}
use Rattle.sorted_lists.specs.SortedList.{first_from}
use Rattle.sorted_lists.specs.BlockMap.{joined, full, IsOpen, AreFilled, AreBlocks, AreBefore}
use Rattle.sorted_lists.specs.BlockMap.{IsPlace}
use Rattle.sorted_lists.specs.BlockMap.{begins_up_to}
use Rattle.sorted_lists.proofs.Orders.{less_back, greater_back}
use Rattle.sorted_lists.proofs.Sets.{before_more}

pub positive : (n : ℕ) → false ≡ (n == 0) → 0 < n
positive zero h = absurd cc
positive (suc n) h = omega arith

module _ {X : Type 0} where
  pub set_again : (xs : List X) (i : ℕ) (x y : X) → set (set xs i x) i y ≡ set xs i y
  set_again [] i x y = refl
  set_again (z ∷ xs) zero x y = refl
  set_again (z ∷ xs) (suc i) x y = ap (λ (zs : List X). z ∷ zs) (set_again xs i x y)

  last_at : (xs : List X) (x : X) → get_or (xs ++ x ∷ []) (length xs) x ≡ x
  last_at [] x = refl
  last_at (y ∷ xs) x = last_at xs x

  pub all_last : (P : X → Type 0) (xs ys : List X) (x : X) → All P ys → ys ≡ xs ++ x ∷ [] → P x
  all_last P xs ys x a e =
      let within : length xs < length ys = omega (arith, ap length e, length-append xs (x ∷ [])) in
      subst P (ap (λ (zs : List X). get_or zs (length xs) x) e ∙ last_at xs x) (a (length xs) x within)

  pub all_one : (P : X → Type 0) (x : X) → P x → All P (x ∷ [])
  all_one P x p zero d l = p
  all_one P x p (suc i) d l = absurd (omega arith)

  pub none_of : (xs : List X) → length xs ≡ 0 → xs ≡ []
  none_of [] h = refl
  none_of (x ∷ xs) h = absurd (omega arith)

module _ {K V A : Type 0} where
  pub filled_blocks : (bs : List (Vec (K × V) A)) → AreFilled bs → AreBlocks bs
  filled_blocks [] f = tt
  filled_blocks (b ∷ bs) f = (f.1, f.2)

  -- ---- blocks that are changed, gained and lost

  filled_set : (bs : List (Vec (K × V) A)) (i : ℕ) (c : Vec (K × V) A) → AreFilled bs → 0 < length c.items → IsOpen c
      → AreFilled (set bs i c)
  filled_set [] i c f n h = tt
  filled_set (b ∷ bs) zero c f n h = (n, h, f.2)
  filled_set (b ∷ bs) (suc i) c f n h = (f.0, f.1, filled_set bs i c f.2 n h)

  pub blocks_set : (bs : List (Vec (K × V) A)) (i : ℕ) (c : Vec (K × V) A) → AreBlocks bs
      → (0 < i → 0 < length c.items) → IsOpen c → AreBlocks (set bs i c)
  blocks_set [] i c f n h = tt
  blocks_set (b ∷ bs) zero c f n h = (h, f.1)
  blocks_set (b ∷ bs) (suc i) c f n h = (f.0, filled_set bs i c f.1 (n (omega arith)) h)

  filled_insert : (bs : List (Vec (K × V) A)) (i : ℕ) (c : Vec (K × V) A) → AreFilled bs → 0 < length c.items → IsOpen c
      → i ≤ length bs → AreFilled (insert bs i c)
  filled_insert [] zero c f n h l = (n, h, tt)
  filled_insert [] (suc i) c f n h l = absurd (omega arith)
  filled_insert (b ∷ bs) zero c f n h l = (n, h, f)
  filled_insert (b ∷ bs) (suc i) c f n h l = (f.0, f.1, filled_insert bs i c f.2 n h (omega arith))

  pub blocks_insert : (bs : List (Vec (K × V) A)) (i : ℕ) (c : Vec (K × V) A) → AreBlocks bs → 0 < length c.items
      → IsOpen c → i < length bs → AreBlocks (insert bs (suc i) c)
  blocks_insert [] i c f n h l = absurd (omega arith)
  blocks_insert (b ∷ bs) i c f n h l = (f.0, filled_insert bs i c f.1 n h (omega arith))

  filled_set_remove : (bs : List (Vec (K × V) A)) (i : ℕ) (c : Vec (K × V) A) → AreFilled bs → i < length bs
      → AreFilled (remove (set bs i c) i)
  filled_set_remove [] i c f l = absurd (omega arith)
  filled_set_remove (b ∷ bs) zero c f l = f.2
  filled_set_remove (b ∷ bs) (suc i) c f l = (f.0, f.1, filled_set_remove bs i c f.2 (omega arith))

  pub blocks_set_remove : (bs : List (Vec (K × V) A)) (i : ℕ) (c : Vec (K × V) A) → AreBlocks bs → 0 < i
      → i < length bs → AreBlocks (remove (set bs i c) i)
  blocks_set_remove [] i c f n l = absurd (omega arith)
  blocks_set_remove (b ∷ bs) zero c f n l = absurd (omega arith)
  blocks_set_remove (b ∷ bs) (suc i) c f n l = (f.0, filled_set_remove bs i c f.1 (omega arith))

  filled_at : (bs : List (Vec (K × V) A)) (i : ℕ) (d : Vec (K × V) A) → AreFilled bs → i < length bs
      → IsOpen (get_or bs i d)
  filled_at [] i d f l = absurd (omega arith)
  filled_at (b ∷ bs) zero d f l = f.1
  filled_at (b ∷ bs) (suc i) d f l = filled_at bs i d f.2 (omega arith)

  pub block_at : (bs : List (Vec (K × V) A)) (i : ℕ) (d : Vec (K × V) A) → AreBlocks bs → i < length bs
      → IsOpen (get_or bs i d)
  block_at [] i d f l = absurd (omega arith)
  block_at (b ∷ bs) zero d f l = f.0
  block_at (b ∷ bs) (suc i) d f l = filled_at bs i d f.1 (omega arith)

  -- ---- what they have

  pub joined_split : (bs : List (Vec (K × V) A)) (i : ℕ) (b c d : Vec (K × V) A) → i < length bs
      → b.items ++ c.items ≡ (get_or bs i d).items → joined (insert (set bs i b) (suc i) c) ≡ joined bs
  joined_split [] i b c d l h = absurd (omega arith)
  joined_split (x ∷ bs) zero b c d l h =
      sym (append_assoc b.items c.items (joined bs)) ∙ ap (λ (zs : List (K × V)). zs ++ joined bs) h
  joined_split (x ∷ bs) (suc i) b c d l h =
      ap (λ (zs : List (K × V)). x.items ++ zs) (joined_split bs i b c d (omega arith) h)

  pub joined_remove : (bs : List (Vec (K × V) A)) (i : ℕ) (d : Vec (K × V) A) → i < length bs
      → (get_or bs i d).items ≡ [] → joined (remove bs i) ≡ joined bs
  joined_remove [] i d l h = absurd (omega arith)
  joined_remove (x ∷ bs) zero d l h = ap (λ (zs : List (K × V)). zs ++ joined bs) (sym h)
  joined_remove (x ∷ bs) (suc i) d l h =
      ap (λ (zs : List (K × V)). x.items ++ zs) (joined_remove bs i d (omega arith) h)

  -- one block more of those that are counted
  pub counted_more : (bs : List (Vec (K × V) A)) (i : ℕ) (d : Vec (K × V) A) → i < length bs
      → length (joined (take (suc i) bs)) ≡ length (joined (take i bs)) + length (get_or bs i d).items
  counted_more [] i d l = absurd (omega arith)
  counted_more (b ∷ bs) zero d l = omega (arith, length-append b.items [])
  counted_more (b ∷ bs) (suc i) d l =
      omega (
        arith,
        length-append b.items (joined (take i bs)),
        length-append b.items (joined (take (suc i) bs)),
        counted_more bs i d (omega arith),
      )

  pub counted_within : (bs : List (Vec (K × V) A)) (i : ℕ) (d : Vec (K × V) A) → i < length bs
      → length (joined (take i bs)) + length (get_or bs i d).items ≤ length (joined bs)
  counted_within [] i d l = absurd (omega arith)
  counted_within (b ∷ bs) zero d l = omega (arith, length-append b.items (joined bs))
  counted_within (b ∷ bs) (suc i) d l =
      omega (
        arith,
        length-append b.items (joined (take i bs)),
        length-append b.items (joined bs),
        counted_within bs i d (omega arith),
      )

  pub counted_bound : (bs : List (Vec (K × V) A)) → AreBlocks bs → length (joined bs) ≤ full * length bs
  counted_bound [] f = omega arith
  counted_bound (b ∷ bs) f =
      omega (arith, f.0.0, counted_bound bs (filled_blocks bs f.1), length-append b.items (joined bs))

module _ {K : Type 0} {R : K → K → Ordering} (o : IsTotalOrder R) where
  -- what is before a key is before all that are not below it
  before_here : (k x : K) (c : Ordering) → R x k ≡ c → is_le c ≡ true → (y : K) → R y x ≡ Less → R y k ≡ Less
  before_here k x Less p h y b = o.trans y x k b p
  before_here k x Equal p h y b = sym (alike_right o x k y p) ∙ b
  before_here k x Greater p h y b = absurd cc

module _ {K V : Type 0} {R : K → K → Ordering} (o : IsTotalOrder R) where
  -- ---- past what is in front

  past_with : (k : K) (v : V) (es fs : List (K × V)) → AreBefore R es k
      → with_value R k v (es ++ fs) ≡ es ++ with_value R k v fs
  past_with k v [] fs b = refl
  past_with k v (e ∷ es) fs b =
      ap (λ c. by_order c ((k, v) ∷ e ∷ es ++ fs) ((k, v) ∷ es ++ fs) (e ∷ with_value R k v (es ++ fs)))
      (less_back o e.0 k b.0)
      ∙ ap (λ (zs : List (K × V)). e ∷ zs) (past_with k v es fs b.1)

  past_without : (k : K) (es fs : List (K × V)) → AreBefore R es k
      → without_key R k (es ++ fs) ≡ es ++ without_key R k fs
  past_without k [] fs b = refl
  past_without k (e ∷ es) fs b =
      ap (λ c. by_order c (e ∷ es ++ fs) (es ++ fs) (e ∷ without_key R k (es ++ fs))) (less_back o e.0 k b.0)
      ∙ ap (λ (zs : List (K × V)). e ∷ zs) (past_without k es fs b.1)

  kept_some : (z : Option (K × V)) (e : K × V) → is_some z ≡ true → Some (unwrap_or z e) ≡ z
  kept_some None e h = absurd cc
  kept_some (Some y) e h = refl

  past_last : (k : K) (es fs : List (K × V)) → AreBefore R es k → is_some (last_up_to R k fs) ≡ true
      → last_up_to R k (es ++ fs) ≡ last_up_to R k fs
  past_last k [] fs b h = refl
  past_last k (e ∷ es) fs b h =
      let here : Option (K × V) = Some (unwrap_or (last_up_to R k (es ++ fs)) e) in
      ap (λ c. by_order c None here here) (less_back o e.0 k b.0)
      ∙ ap (λ (z : Option (K × V)). let o : Option (K × V) = Some (unwrap_or z e) in o) (past_last k es fs b.1 h)
      ∙ kept_some (last_up_to R k fs) e h

  past_first : (k : K) (es fs : List (K × V)) → AreBefore R es k → first_from R k (es ++ fs) ≡ first_from R k fs
  past_first k [] fs b = refl
  past_first k (e ∷ es) fs b =
      ap (λ c. by_order c (Some e) (Some e) (first_from R k (es ++ fs))) (less_back o e.0 k b.0)
      ∙ past_first k es fs b.1

  -- ---- in front of what is behind

  with_prefix : (k : K) (v : V) (es fs : List (K × V)) → IsBefore R k (keys fs)
      → with_value R k v (es ++ fs) ≡ with_value R k v es ++ fs
  with_prefix k v [] [] b = refl
  with_prefix k v [] (x ∷ fs) b = ap (λ c. by_order c ((k, v) ∷ x ∷ fs) ((k, v) ∷ fs) (x ∷ with_value R k v fs)) b.0
  with_prefix k v (e ∷ es) fs b = go (with_prefix k v es fs b) (R k e.0) where
    go : with_value R k v (es ++ fs) ≡ with_value R k v es ++ fs → (c : Ordering)
        → by_order c ((k, v) ∷ e ∷ es ++ fs) ((k, v) ∷ es ++ fs) (e ∷ with_value R k v (es ++ fs))
        ≡ by_order c ((k, v) ∷ e ∷ es) ((k, v) ∷ es) (e ∷ with_value R k v es) ++ fs
    go i Less = refl
    go i Equal = refl
    go i Greater = ap (λ (zs : List (K × V)). e ∷ zs) i

  without_prefix : (k : K) (es fs : List (K × V)) → IsBefore R k (keys fs)
      → without_key R k (es ++ fs) ≡ without_key R k es ++ fs
  without_prefix k [] [] b = refl
  without_prefix k [] (x ∷ fs) b = ap (λ c. by_order c (x ∷ fs) fs (x ∷ without_key R k fs)) b.0
  without_prefix k (e ∷ es) fs b = go (without_prefix k es fs b) (R k e.0) where
    go : without_key R k (es ++ fs) ≡ without_key R k es ++ fs → (c : Ordering)
        → by_order c (e ∷ es ++ fs) (es ++ fs) (e ∷ without_key R k (es ++ fs))
        ≡ by_order c (e ∷ es) es (e ∷ without_key R k es) ++ fs
    go i Less = refl
    go i Equal = refl
    go i Greater = ap (λ (zs : List (K × V)). e ∷ zs) i

  last_prefix : (k : K) (es fs : List (K × V)) → IsBefore R k (keys fs) → last_up_to R k (es ++ fs) ≡ last_up_to R k es
  last_prefix k [] [] b = refl
  last_prefix k [] (x ∷ fs) b =
      let here : Option (K × V) = Some (unwrap_or (last_up_to R k fs) x) in ap (λ c. by_order c None here here) b.0
  last_prefix k (e ∷ es) fs b =
      ap (λ (z : Option (K × V)). by_order (R k e.0) None (Some (unwrap_or z e)) (Some (unwrap_or z e)))
      (last_prefix k es fs b)

  first_here : (k : K) (es fs : List (K × V)) (y : K × V) → first_from R k es ≡ Some y
      → first_from R k (es ++ fs) ≡ Some y
  first_here k [] fs y h = absurd cc
  first_here k (e ∷ es) fs y h = go (first_here k es fs y) (R k e.0) h where
    go : (first_from R k es ≡ Some y → first_from R k (es ++ fs) ≡ Some y) → (c : Ordering)
        → by_order c (Some e) (Some e) (first_from R k es) ≡ Some y
        → by_order c (Some e) (Some e) (first_from R k (es ++ fs)) ≡ Some y
    go i Less p = p
    go i Equal p = p
    go i Greater p = i p

  first_later : (k : K) (es fs : List (K × V)) → first_from R k es ≡ None
      → first_from R k (es ++ fs) ≡ first_from R k fs
  first_later k [] fs h = refl
  first_later k (e ∷ es) fs h = go (first_later k es fs) (R k e.0) h where
    go : (first_from R k es ≡ None → first_from R k (es ++ fs) ≡ first_from R k fs) → (c : Ordering)
        → by_order c (Some e) (Some e) (first_from R k es) ≡ None
        → by_order c (Some e) (Some e) (first_from R k (es ++ fs)) ≡ first_from R k fs
    go i Less p = absurd cc
    go i Equal p = absurd cc
    go i Greater p = i p

  first_after : (k : K) (x : K × V) (fs : List (K × V)) → IsBefore R k (keys (x ∷ fs))
      → first_from R k (x ∷ fs) ≡ Some x
  first_after k x fs b = ap (λ c. by_order c (Some x) (Some x) (first_from R k fs)) b.0

  -- ---- lengths

  pub with_some : (k : K) (v : V) (es : List (K × V)) → 0 < length (with_value R k v es)
  with_some k v [] = omega arith
  with_some k v (e ∷ es) = go (R k e.0) where
    go : (c : Ordering) → 0 < length (by_order c ((k, v) ∷ e ∷ es) ((k, v) ∷ es) (e ∷ with_value R k v es))
    go Less = omega arith
    go Equal = omega arith
    go Greater = omega arith

  pub with_more : (k : K) (v : V) (es : List (K × V)) → length (with_value R k v es) ≤ length es + 1
  with_more k v [] = omega arith
  with_more k v (e ∷ es) = go (with_more k v es) (R k e.0) where
    go : length (with_value R k v es) ≤ length es + 1 → (c : Ordering)
        → length (by_order c ((k, v) ∷ e ∷ es) ((k, v) ∷ es) (e ∷ with_value R k v es)) ≤ suc (length es) + 1
    go h Less = omega arith
    go h Equal = omega arith
    go h Greater = omega (arith, h)

  pub without_fewer : (k : K) (es : List (K × V)) → length (without_key R k es) ≤ length es
  without_fewer k [] = omega arith
  without_fewer k (e ∷ es) = go (without_fewer k es) (R k e.0) where
    go : length (without_key R k es) ≤ length es → (c : Ordering)
        → length (by_order c (e ∷ es) es (e ∷ without_key R k es)) ≤ suc (length es)
    go h Less = omega arith
    go h Equal = omega arith
    go h Greater = omega (arith, h)

  -- ---- at the block of a key

  module _ {A : Type 0} where
    pub place_within : (k : K) (bs : List (Vec (K × V) A)) (i : ℕ) → IsPlace R k bs i → 0 < length bs → i < length bs
    place_within k [] i p n = absurd (omega arith)
    place_within k (b ∷ bs) zero p n = omega arith
    place_within k (b ∷ []) (suc i) p n = absurd (true≢false (sym p.1))
    place_within k (b ∷ c ∷ bs) (suc i) p n =
        let there : i < length (c ∷ bs) = place_within k (c ∷ bs) i p.2 (omega arith) in omega (arith, there)

    pub none_joined : (k : K) (bs : List (Vec (K × V) A)) (i : ℕ) → IsPlace R k bs i → length bs ≤ i → joined bs ≡ []
    none_joined k [] i p l = refl
    none_joined k (b ∷ bs) i p l =
        absurd (let there : i < length (b ∷ bs) = place_within k (b ∷ bs) i p (omega arith) in omega (arith, there))

    pub with_place : (k : K) (v : V) (bs : List (Vec (K × V) A)) (i : ℕ) (c d : Vec (K × V) A) → IsPlace R k bs i
        → i < length bs → c.items ≡ with_value R k v (get_or bs i d).items
        → joined (set bs i c) ≡ with_value R k v (joined bs)
    with_place k v [] i c d p l h = absurd (omega arith)
    with_place k v (b ∷ bs) zero c d p l h =
        ap (λ (zs : List (K × V)). zs ++ joined bs) h ∙ sym (with_prefix k v b.items (joined bs) p)
    with_place k v (b ∷ bs) (suc i) c d p l h =
        ap (λ (zs : List (K × V)). b.items ++ zs) (with_place k v bs i c d p.2 (omega arith) h)
        ∙ sym (past_with k v b.items (joined bs) p.0)

    pub without_place : (k : K) (bs : List (Vec (K × V) A)) (i : ℕ) (c d : Vec (K × V) A) → IsPlace R k bs i
        → i < length bs → c.items ≡ without_key R k (get_or bs i d).items
        → joined (set bs i c) ≡ without_key R k (joined bs)
    without_place k [] i c d p l h = absurd (omega arith)
    without_place k (b ∷ bs) zero c d p l h =
        ap (λ (zs : List (K × V)). zs ++ joined bs) h ∙ sym (without_prefix k b.items (joined bs) p)
    without_place k (b ∷ bs) (suc i) c d p l h =
        ap (λ (zs : List (K × V)). b.items ++ zs) (without_place k bs i c d p.2 (omega arith) h)
        ∙ sym (past_without k b.items (joined bs) p.0)

    pub last_place : (k : K) (bs : List (Vec (K × V) A)) (i : ℕ) (d : Vec (K × V) A) → IsPlace R k bs i
        → i < length bs → last_up_to R k (get_or bs i d).items ≡ last_up_to R k (joined bs)
    last_place k [] i d p l = absurd (omega arith)
    last_place k (b ∷ bs) zero d p l = sym (last_prefix k b.items (joined bs) p)
    last_place k (b ∷ bs) (suc i) d p l =
        last_place k bs i d p.2 (omega arith) ∙ sym (past_last k b.items (joined bs) p.0 p.1)

    pub first_place : (k : K) (bs : List (Vec (K × V) A)) (i : ℕ) (d : Vec (K × V) A) (y : K × V) → IsPlace R k bs i
        → i < length bs → first_from R k (get_or bs i d).items ≡ Some y → first_from R k (joined bs) ≡ Some y
    first_place k [] i d y p l h = absurd (omega arith)
    first_place k (b ∷ bs) zero d y p l h = first_here k b.items (joined bs) y h
    first_place k (b ∷ bs) (suc i) d y p l h =
        past_first k b.items (joined bs) p.0 ∙ first_place k bs i d y p.2 (omega arith) h

    -- the block is the last one
    pub first_end : (k : K) (bs : List (Vec (K × V) A)) (i : ℕ) (d : Vec (K × V) A) → IsPlace R k bs i
        → i < length bs → first_from R k (get_or bs i d).items ≡ None → length bs ≤ i + 1
        → first_from R k (joined bs) ≡ None
    first_end k [] i d p l h n = refl
    first_end k (b ∷ []) zero d p l h n = first_later k b.items [] h
    first_end k (b ∷ c ∷ bs) zero d p l h n = absurd (omega arith)
    first_end k (b ∷ bs) (suc i) d p l h n =
        past_first k b.items (joined bs) p.0 ∙ first_end k bs i d p.2 (omega arith) h (omega arith)

    -- no entry of the block follows, so the next block's first one does
    pub first_next : (k : K) (bs : List (Vec (K × V) A)) (i : ℕ) (d : Vec (K × V) A) → IsPlace R k bs i → AreBlocks bs
        → suc i < length bs → first_from R k (get_or bs i d).items ≡ None
        → slice_get (get_or bs (suc i) d).items 0 ≡ first_from R k (joined bs)
    first_next k [] i d p f l h = absurd (omega arith)
    first_next k (b ∷ []) zero d p f l h = absurd (omega arith)
    first_next k (b ∷ c ∷ bs) zero d p f l h =
        go c.items f.1.0 p ∙ sym (first_later k b.items (c.items ++ joined bs) h) where
          go : (es : List (K × V)) → 0 < length es → IsBefore R k (keys (es ++ joined bs))
              → slice_get es 0 ≡ first_from R k (es ++ joined bs)
          go [] n q = absurd (omega arith)
          go (x ∷ es) n q = sym (first_after k x (es ++ joined bs) q)
    first_next k (b ∷ bs) (suc i) d p f l h =
        first_next k bs i d p.2 (filled_blocks bs f.1) (omega arith) h ∙ sym (past_first k b.items (joined bs) p.0)

  -- ---- a search finds it

  rises_prefixes : (es fs : List (K × V)) → Rises R (keys (es ++ fs)) → Rises R (keys es)
  rises_prefixes [] fs r = tt
  rises_prefixes (e ∷ es) fs r = (before_prefix e.0 es r.0, rises_prefixes es fs r.1) where
    before_prefix : (k : K) (xs : List (K × V)) → IsBefore R k (keys (xs ++ fs)) → IsBefore R k (keys xs)
    before_prefix k [] b = tt
    before_prefix k (x ∷ xs) b = (b.0, before_prefix k xs b.1)

  rises_after : (es fs : List (K × V)) → Rises R (keys (es ++ fs)) → Rises R (keys fs)
  rises_after [] fs r = r
  rises_after (e ∷ es) fs r = rises_after es fs r.1

  before_after : (y : K) (es fs : List (K × V)) → IsBefore R y (keys (es ++ fs)) → IsBefore R y (keys fs)
  before_after y [] fs b = b
  before_after y (e ∷ es) fs b = before_after y es fs b.1

  -- a key that the first of what is after is not above is above all in front
  all_before : (k : K) (es fs : List (K × V)) (x : K × V) → Rises R (keys (es ++ x ∷ fs)) → is_le (R x.0 k) ≡ true
      → AreBefore R es k
  all_before k [] fs x r h = tt
  all_before k (e ∷ es) fs x r h =
      (before_here o k x.0 (R x.0 k) refl h e.0 (first_of e.0 es r.0), all_before k es fs x r.1 h) where
        first_of : (y : K) (zs : List (K × V)) → IsBefore R y (keys (zs ++ x ∷ fs)) → R y x.0 ≡ Less
        first_of y [] b = b.0
        first_of y (z ∷ zs) b = first_of y zs b.1

  -- a key below the first is before all
  before_all : (k : K) (x : K × V) (fs : List (K × V)) → Rises R (keys (x ∷ fs)) → is_le (R x.0 k) ≡ false
      → IsBefore R k (keys (x ∷ fs))
  before_all k x fs r h =
      let less : R k x.0 ≡ Less = greater_back o x.0 k (above (R x.0 k) h) in
      (less, before_more o k x.0 (keys fs) less r.0) where
        above : (c : Ordering) → is_le c ≡ false → c ≡ Greater
        above Less p = absurd cc
        above Equal p = absurd cc
        above Greater p = refl

  some_here : (k : K) (x : K × V) (fs : List (K × V)) → is_le (R x.0 k) ≡ true
      → is_some (last_up_to R k (x ∷ fs)) ≡ true
  some_here k x fs h = go (R k x.0) (sym (ap is_le (o.antisymm x.0 k)) ∙ h) where
    here : Option (K × V)
    here = Some (unwrap_or (last_up_to R k fs) x)

    go : (c : Ordering) → is_le (ordering_reverse c) ≡ true → is_some (by_order c None here here) ≡ true
    go Less p = absurd cc
    go Equal p = refl
    go Greater p = refl

  module _ {A : Type 0} where
    pub block_rises : (bs : List (Vec (K × V) A)) (i : ℕ) (d : Vec (K × V) A) → Rises R (keys (joined bs))
        → i < length bs → Rises R (keys (get_or bs i d).items)
    block_rises [] i d r l = absurd (omega arith)
    block_rises (b ∷ bs) zero d r l = rises_prefixes b.items (joined bs) r
    block_rises (b ∷ bs) (suc i) d r l = block_rises bs i d (rises_after b.items (joined bs) r) (omega arith)

    -- a key before all of these is before one that some block's first key is not above
    before_later : (k y : K) (bs : List (Vec (K × V) A)) (j : ℕ) (d : Vec (K × V) A) → IsBefore R y (keys (joined bs))
        → AreFilled bs → j < length bs → begins_up_to R k (get_or bs j d).items ≡ true → R y k ≡ Less
    before_later k y [] j d b f l h = absurd (omega arith)
    before_later k y (c ∷ cs) zero d b f l h = go c.items f.0 b h where
      go : (es : List (K × V)) → 0 < length es → IsBefore R y (keys (es ++ joined cs)) → begins_up_to R k es ≡ true
          → R y k ≡ Less
      go [] n q p = absurd (omega arith)
      go (e ∷ es) n q p = before_here o k e.0 (R e.0 k) refl p y q.0
    before_later k y (c ∷ cs) (suc j) d b f l h =
        before_later k y cs j d (before_after y c.items (joined cs) b) f.2 (omega arith) h

    pub parted : (k : K) (bs : List (Vec (K × V) A)) → Rises R (keys (joined bs)) → AreBlocks bs
        → IsPartitionedBy (λ b. begins_up_to R k b.items) bs
    parted k [] r f i j d l n h = absurd (omega arith)
    parted k (b ∷ bs) r f zero zero d l n h = h
    parted k (b ∷ bs) r f zero (suc j) d l n h = go b.items r where
      go : (es : List (K × V)) → Rises R (keys (es ++ joined bs)) → begins_up_to R k es ≡ true
      go [] q = refl
      go (e ∷ es) q =
          ap is_le (before_later k e.0 bs j d (before_after e.0 es (joined bs) q.0) f.1 (omega arith) h)
    parted k (b ∷ bs) r f (suc i) zero d l n h = absurd (omega arith)
    parted k (b ∷ bs) r f (suc i) (suc j) d l n h =
        parted k bs (rises_after b.items (joined bs) r) (filled_blocks bs f.1) i j d (omega arith) (omega arith) h

    pub placed : (k : K) (bs : List (Vec (K × V) A)) (n i : ℕ) → Rises R (keys (joined bs)) → AreBlocks bs
        → n ≤ length bs → AllWithin (λ b. begins_up_to R k b.items ≡ true) bs 0 n
        → AllWithin (λ b. begins_up_to R k b.items ≡ false) bs n (length bs) → i ≡ n - 1 → IsPlace R k bs i
    placed k [] n i r f l below above e = tt
    placed k (b ∷ []) n zero r f l below above e = tt
    placed k (b ∷ c ∷ cs) n zero r f l below above e =
        go c.items (rises_after b.items (joined (c ∷ cs)) r) (above 1 b (omega arith) (omega arith)) where
          go : (es : List (K × V)) → Rises R (keys (es ++ joined cs)) → begins_up_to R k es ≡ false
              → IsBefore R k (keys (es ++ joined cs))
          go [] q h = absurd cc
          go (x ∷ es) q h = before_all k x (es ++ joined cs) q h
    placed k (b ∷ []) n (suc i) r f l below above e = absurd (omega arith)
    placed k (b ∷ c ∷ cs) n (suc i) r f l below above e =
        let here = go c.items f.1.0 r (below 1 b (omega arith) (omega arith)) in (
          here.0,
          here.1,
          placed k (c ∷ cs) (n - 1) i (rises_after b.items (joined (c ∷ cs)) r) (filled_blocks (c ∷ cs) f.1)
              (omega arith)
              (λ j d m t. below (suc j) d (omega arith) (omega arith))
              (λ j d m t. above (suc j) d (omega arith) (omega arith)) (omega arith),
        ) where
          go : (es : List (K × V)) → 0 < length es → Rises R (keys (b.items ++ (es ++ joined cs)))
              → begins_up_to R k es ≡ true
              → AreBefore R b.items k × (is_some (last_up_to R k (es ++ joined cs)) ≡ true)
          go [] m q h = absurd (omega arith)
          go (x ∷ es) m q h =
              (all_before k b.items (es ++ joined cs) x q h, some_here k x (es ++ joined cs) h)
