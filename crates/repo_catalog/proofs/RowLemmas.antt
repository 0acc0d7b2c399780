-- What is left of a row whose first entries are gone.
use Rattle.std.proofs.Common.{◌≡◌, ℕ, zero, suc, ◌+◌, ◌≤◌, List, [], ◌∷◌, drop, length, refl, sym, ap, ◌∙◌, arith}
use Rattle.std.specs.List.{insert, remove}
use Rattle.repo_catalog.specs.declared.entry.Entry.{Entry}

pub drop_insert : (n i k : ℕ) (xs : List Entry) (x : Entry) → k ≡ n + i → n ≤ length xs
    → drop n (insert xs k x) ≡ insert (drop n xs) i x
drop_insert zero i k xs x e l = ap (λ (j : ℕ). insert xs j x) (omega (arith, e))
drop_insert (suc n) i zero xs x e l = absurd (omega (arith, e))
drop_insert (suc n) i (suc k) [] x e l = absurd (omega (arith, l))
drop_insert (suc n) i (suc k) (y ∷ ys) x e l = drop_insert n i k ys x (omega (arith, e)) (omega (arith, l))

pub drop_remove : (n i k : ℕ) (xs : List Entry) → k ≡ n + i → n ≤ length xs
    → drop n (remove xs k) ≡ remove (drop n xs) i
drop_remove zero i k xs e l = ap (λ (j : ℕ). remove xs j) (omega (arith, e))
drop_remove (suc n) i zero xs e l = absurd (omega (arith, e))
drop_remove (suc n) i (suc k) [] e l = absurd (omega (arith, l))
drop_remove (suc n) i (suc k) (y ∷ ys) e l = drop_remove n i k ys (omega (arith, e)) (omega (arith, l))

drop_next : (n : ℕ) (xs : List Entry) → drop (suc n) xs ≡ remove (drop n xs) 0
drop_next zero xs = refl
drop_next (suc n) [] = refl
drop_next (suc n) (y ∷ ys) = drop_next n ys

pub drop_first : (n k i : ℕ) (xs : List Entry) → k ≡ n + 1 → i ≡ 0 → drop k xs ≡ remove (drop n xs) i
drop_first n k i xs e z =
    ap (λ (j : ℕ). drop j xs) (next n k e) ∙ drop_next n xs ∙ ap (λ (j : ℕ). remove (drop n xs) j) (sym z) where
      next : (m j : ℕ) → j ≡ m + 1 → j ≡ suc m
      next m j h = omega (arith, h)
