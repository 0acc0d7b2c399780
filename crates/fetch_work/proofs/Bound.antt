-- Different pairs below n and t are at most n * t.
use Rattle.std.proofs.Common.{◌≡◌, ◌≢◌, ⊎_elim, ℕ, zero, suc, ◌+◌, ◌*◌, ◌-◌, ◌<◌, ◌≤◌, eqb, ◌&&◌, List, [], ◌∷◌, length}
use Rattle.std.proofs.Common.{refl, sym, ap, subst, ◌∙◌, arith, ne_eqb}
use Rattle.std.proofs.Common.{suc-mul}
use Rattle.std.proofs.lemmas.Bool.{cases_eq}
use Rattle.fetch_board.specs.Counts.{one, pairs}
use Rattle.fetch_board.proofs.Marks.{mine, other, own, pair_own}

upto : (ℕ → ℕ) → ℕ → ℕ
upto f zero = 0
upto f (suc n) = f n + upto f n

upto_add : (f g : ℕ → ℕ) (n : ℕ) → upto (λ k. f k + g k) n ≡ upto f n + upto g n
unfolding upto
upto_add f g zero = refl
upto_add f g (suc n) = let h = upto_add f g n in omega arith

upto_same : (f g : ℕ → ℕ) (n : ℕ) → ((k : ℕ) → f k ≡ g k) → upto f n ≡ upto g n
unfolding upto
upto_same f g zero e = refl
upto_same f g (suc n) e = let h = upto_same f g n e in let k = e n in omega arith

upto_zero : (f : ℕ → ℕ) (n : ℕ) → ((k : ℕ) → k < n → f k ≡ 0) → upto f n ≡ 0
unfolding upto
upto_zero f zero e = refl
upto_zero f (suc n) e = let h = upto_zero f n (λ k l. e k (omega arith)) in let k = e n (omega arith) in omega arith

upto_at : (f : ℕ → ℕ) (x n : ℕ) → x < n → ((k : ℕ) → k ≢ x → f k ≡ 0) → upto f n ≡ f x
unfolding upto
upto_at f x zero l e = absurd (omega arith)
upto_at f x (suc n) l e = ⊎_elim
    (λ is. let z = upto_zero f n (λ k b. e k (λ h. omega arith)) in let s : f x ≡ f n = ap f is in omega arith)
    (λ ne. let h = upto_at f x n (omega arith) e in let z = e n (λ h. ne (sym h)) in omega arith) (cases_eq x n)

upto_most : (f : ℕ → ℕ) (c n : ℕ) → ((k : ℕ) → f k ≤ c) → upto f n ≤ n * c
unfolding upto
upto_most f c zero e = omega arith
upto_most f c (suc n) e = let h = upto_most f c n e in let k = e n in omega (arith, suc-mul n c)

abbrev Pair : Type 0
Pair = ℕ × ℕ

module _ (n t : ℕ) where
  square : List Pair → ℕ
  square xs = upto (λ i. upto (λ a. pairs i a xs) t) n

  lone : (x : Pair) → x.0 < n → x.1 < t → upto (λ i. upto (λ a. one (eqb x.0 i && eqb x.1 a)) t) n ≡ 1
  lone x l m = let row : ℕ → ℕ = λ i. upto (λ a. one (eqb x.0 i && eqb x.1 a)) t in
      let cell : row x.0 ≡ one (eqb x.0 x.0 && eqb x.1 x.1) = upto_at (λ a. one (eqb x.0 x.0 && eqb x.1 a)) x.1 t m
      (λ a ne. mine x.0 (eqb x.1 a) ∙ ap one (ne_eqb x.1 a (λ e. ne (sym e)))) in
      let hit : one (eqb x.0 x.0 && eqb x.1 x.1) ≡ 1 = mine x.0 (eqb x.1 x.1) ∙ ap one (own x.1) in
      upto_at row x.0 n l
      (λ i ne. upto_zero (λ a. one (eqb x.0 i && eqb x.1 a)) t (λ a b. other x.0 i (eqb x.1 a) ne)) ∙ (cell ∙ hit)

  squared : (xs : List Pair) → ((i a : ℕ) → 0 < pairs i a xs → (i < n) × (a < t)) → square xs ≡ length xs
  unfolding square
  squared [] w = upto_zero (λ i. upto (λ a. 0) t) n (λ i l. upto_zero (λ a. 0) t (λ a m. refl))
  squared (x ∷ xs) w = let in_range = w x.0 x.1 (pair_own x.0 x.1 (pairs x.0 x.1 xs)) in
      let h = squared xs (λ i a some. w i a (omega arith)) in let l = lone x in_range.0 in_range.1 in
      let f : ℕ → ℕ → ℕ = λ i a. one (eqb x.0 i && eqb x.1 a) in let g : ℕ → ℕ → ℕ = λ i a. pairs i a xs in
      let both : upto (λ i. upto (λ a. f i a + g i a) t) n ≡ upto (λ i. upto (f i) t + upto (g i) t) n = upto_same
      (λ i. upto (λ a. f i a + g i a) t) (λ i. upto (f i) t + upto (g i) t) n (λ i. upto_add (f i) (g i) t) in
      let split = upto_add (λ i. upto (f i) t) (λ i. upto (g i) t) n in
      both ∙ (split ∙ (let k : 1 + length xs ≡ suc (length xs) = omega arith in (λ j. l j + h j) ∙ k))

  pub few : (xs : List Pair) → ((i a : ℕ) → 0 < pairs i a xs → (i < n) × (a < t)) → ((i a : ℕ) → pairs i a xs ≤ 1)
      → length xs ≤ n * t
  unfolding square
  few xs w once = let e = squared xs w in
      let m = upto_most (λ i. upto (λ a. pairs i a xs) t) (t * 1) n (λ i. upto_most (λ a. pairs i a xs) 1 t (once i)) in
      let same : n * (t * 1) ≡ n * t = ap (λ k. n * k) (let q : t * 1 ≡ t = omega arith in q) in
      subst (λ k. k ≤ n * t) e (subst (λ k. square xs ≤ k) same m)

-- what is left gets less
pub less_left : (m a b : ℕ) → b ≤ m → a < b → m - b < m - a
less_left m a b most more = omega arith
