-- Sums over sets in order, and how long their filters are.
use Rattle.std.proofs.Common.{◌≡◌, ◌⊎◌, inl, inr, ℕ, ◌+◌, ◌≤◌, ◌<◌, Bool, true, false, cond, ◌||◌, List, [], ◌∷◌}
use Rattle.std.proofs.Common.{length, refl, sym, ap, ◌∙◌, arith}
use Rattle.std.proofs.lemmas.Bool.{true≢false}
use Rattle.std.specs.Prelude.{filter, sum_by}
use Rattle.std.proofs.lemmas.List.Sums.{sum_by-cons}
use Rattle.std.specs.Ordering.{eq_by_cmp, is_eq}
use Rattle.std.specs.declared.cmp.Ordering.{Ordering}
use Rattle.std.specs.declared.cmp.Ordering.TheVariants.{Less, Equal, Greater}
use Rattle.repo_plan.specs.declared.part.Part.{Part}
use Rattle.sorted_lists.specs.SortedList.{by_order, Rises, contains, insert_key}
use Rattle.repo_plan.specs.Parts.{part_cmp}
use Rattle.sorted_lists.proofs.Orders.{Exact, less_back}
use Rattle.repo_plan.proofs.Orders.{exact_parts}
use Rattle.sorted_lists.proofs.Sets.{In, each_before, rises_insert, contains-insert_key}
use Rattle.group_model.specs.Member.{insert_keys}
use Rattle.bench_world.specs.Gathering.{one_each}

module _ {K : Type 0} {R : K → K → Ordering} (e : Exact R) where
  -- A sum over a set with an element more.
  pub sum_insert : (f : K → ℕ) (k : K) (xs : List K) → contains R xs k ≡ false
      → sum_by f (insert_key R k xs) ≡ f k + sum_by f xs
  sum_insert f k [] h = sum_by-cons f k []
  sum_insert f k (x ∷ xs) h = go (sum_insert f k xs) (R k x) refl where
    go : (contains R xs k ≡ false → sum_by f (insert_key R k xs) ≡ f k + sum_by f xs) → (o : Ordering) → R k x ≡ o
        → sum_by f (by_order o (k ∷ x ∷ xs) (x ∷ xs) (x ∷ insert_key R k xs)) ≡ f k + sum_by f (x ∷ xs)
    go again Less p = sum_by-cons f k (x ∷ xs)
    go again Equal p = absurd (true≢false (sym (ap (λ (b : Bool). b || contains R xs k) (ap is_eq p)) ∙ h))
    go again Greater p =
        let later : contains R xs k ≡ false = sym (ap (λ (b : Bool). b || contains R xs k) (ap is_eq p)) ∙ h in
        let r : sum_by f (insert_key R k xs) ≡ f k + sum_by f xs = again later in
        let a : sum_by f (x ∷ insert_key R k xs) ≡ f x + sum_by f (insert_key R k xs) =
        sum_by-cons f x (insert_key R k xs) in
        let b : sum_by f (x ∷ xs) ≡ f x + sum_by f xs = sum_by-cons f x xs in
        omega (arith, r, a, b)

-- A sharper test passes fewer, where it refuses one that the other passes.
module _ {A : Type 0} (p q : A → Bool) (sharper : (y : A) → q y ≡ true → p y ≡ true) where
  no_more_step : (z : A) (zs : List A) → length (filter q zs) ≤ length (filter p zs) → (c : Bool) → p z ≡ c → (d : Bool)
      → q z ≡ d → length (cond d (z ∷ filter q zs) (filter q zs)) ≤ length (cond c (z ∷ filter p zs) (filter p zs))
  no_more_step z zs h true e true f = omega (arith, h)
  no_more_step z zs h true e false f = omega (arith, h)
  no_more_step z zs h false e true f = absurd (true≢false (sym (sharper z f) ∙ e))
  no_more_step z zs h false e false f = h

  no_more : (zs : List A) → length (filter q zs) ≤ length (filter p zs)
  no_more [] = omega arith
  no_more (z ∷ zs) = no_more_step z zs (no_more zs) (p z) refl (q z) refl

  fewer_step : (x : A) → p x ≡ true → q x ≡ false → (y : A) (ys : List A) → length (filter q ys) ≤ length (filter p ys)
      → (In x ys → length (filter q ys) < length (filter p ys)) → (x ≡ y) ⊎ In x ys
      → (c : Bool) → p y ≡ c → (d : Bool) → q y ≡ d
      → length (cond d (y ∷ filter q ys) (filter q ys)) < length (cond c (y ∷ filter p ys) (filter p ys))
  fewer_step x a b y ys most again (inl same) true e true f = absurd (true≢false (sym f ∙ ap q (sym same) ∙ b))
  fewer_step x a b y ys most again (inl same) true e false f = omega (arith, most)
  fewer_step x a b y ys most again (inl same) false e d f = absurd (true≢false (sym a ∙ ap p same ∙ e))
  fewer_step x a b y ys most again (inr j) true e true f =
      let h : length (filter q ys) < length (filter p ys) = again j in omega (arith, h)
  fewer_step x a b y ys most again (inr j) true e false f =
      let h : length (filter q ys) < length (filter p ys) = again j in omega (arith, h)
  fewer_step x a b y ys most again (inr j) false e true f = absurd (true≢false (sym (sharper y f) ∙ e))
  fewer_step x a b y ys most again (inr j) false e false f = again j

  pub filter_fewer : (xs : List A) (x : A) → In x xs → p x ≡ true → q x ≡ false
      → length (filter q xs) < length (filter p xs)
  filter_fewer [] x i a b = absurd i
  filter_fewer (y ∷ ys) x i a b =
      fewer_step x a b y ys (no_more ys) (λ j. filter_fewer ys x j a b) i (p y) refl (q y) refl

-- A sum over a set with elements that it lacked.
pub sum_insert_keys : (f : Part → ℕ) (ts held : List Part) → Rises part_cmp ts → Rises part_cmp held
    → ((t : Part) → In t ts → contains part_cmp held t ≡ false)
    → sum_by f (insert_keys ts held) ≡ sum_by f ts + sum_by f held
sum_insert_keys f [] held r h none = omega arith
sum_insert_keys f (t ∷ ts) held r h none =
    let more = insert_key part_cmp t held in
    let one : sum_by f (insert_key part_cmp t held) ≡ f t + sum_by f held =
    sum_insert exact_parts f t held (none t (inl refl)) in
    let first : sum_by f (t ∷ ts) ≡ f t + sum_by f ts = sum_by-cons f t ts in
    let rest : sum_by f (insert_keys ts (insert_key part_cmp t held))
    ≡ sum_by f ts + sum_by f (insert_key part_cmp t held) =
    sum_insert_keys f ts more r.1 (rises_insert exact_parts.total t held h) (λ u i.
    contains-insert_key exact_parts t held u ∙ still u i (eq_by_cmp part_cmp u t) refl) in
    omega (arith, one, first, rest) where
      still : (u : Part) → In u ts → (b : Bool) → eq_by_cmp part_cmp u t ≡ b
          → (eq_by_cmp part_cmp u t || contains part_cmp held u) ≡ false
      still u i true p =
          absurd
          (same_less (ap is_eq (less_back exact_parts.total t u (each_before exact_parts.total t ts r.0 u i))) p) where
            same_less : eq_by_cmp part_cmp u t ≡ false → eq_by_cmp part_cmp u t ≡ true → ⊥
            same_less a b = true≢false (sym b ∙ a)
      still u i false p = ap (λ (c : Bool). c || contains part_cmp held u) p ∙ none u (inr i)

-- Where each counts one, a sum is the length.
pub ones : (ts : List Part) → sum_by one_each ts ≡ length ts
ones [] = refl
ones (t ∷ ts) =
    let head : sum_by one_each (t ∷ ts) ≡ 1 + sum_by one_each ts = sum_by-cons one_each t ts in
    let rest : sum_by one_each ts ≡ length ts = ones ts in
    omega (arith, head, rest)
