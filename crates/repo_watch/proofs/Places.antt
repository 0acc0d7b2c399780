-- The watcher of a number, by its place.
use Rattle.std.proofs.Common.{◌≡◌, ℕ, zero, suc, ◌+◌, ◌≤◌, ◌<◌, List, [], ◌∷◌, length, get_or, set, Option, Some, None}
use Rattle.std.proofs.Common.{refl, ap, subst, arith}
use Rattle.repo_catalog.specs.declared.entry.Entry.{Entry}
use Rattle.repo_watch.specs.Watching.{Watching, with_news, watch_of, after_take}

pub watch_at : (ws : List Watching) (i : ℕ) (d : Watching) → i < length ws → watch_of (suc i) ws ≡ Some (get_or ws i d)
watch_at [] i d l = absurd (omega arith)
watch_at (w ∷ ws) zero d l = refl
watch_at (w ∷ ws) (suc i) d l = watch_at ws i d (omega arith)

pub watch_zero : (ws : List Watching) → watch_of 0 ws ≡ None
watch_zero [] = refl
watch_zero (w ∷ ws) = refl

pub watch_beyond : (ws : List Watching) (i : ℕ) → length ws ≤ i → watch_of (suc i) ws ≡ None
watch_beyond [] i l = refl
watch_beyond (w ∷ ws) zero l = absurd (omega arith)
watch_beyond (w ∷ ws) (suc i) l = watch_beyond ws i (omega arith)

pub taken_at : (ws : List Watching) (i : ℕ) (entries : List Entry) (d : Watching) → i < length ws
    → after_take (suc i) entries ws ≡ set ws i (with_news (get_or ws i d) entries)
taken_at [] i entries d l = absurd (omega arith)
taken_at (w ∷ ws) zero entries d l = refl
taken_at (w ∷ ws) (suc i) entries d l = ap (λ (rest : List Watching). w ∷ rest) (taken_at ws i entries d (omega arith))

-- the same by the number itself
pub watch_found : (ws : List Watching) (n i : ℕ) (d : Watching) → i < length ws → n ≡ i + 1
    → watch_of n ws ≡ Some (get_or ws i d)
watch_found ws n i d l e =
    let next : suc i ≡ n = omega (arith, e) in
    subst (λ (k : ℕ). watch_of k ws ≡ Some (get_or ws i d)) next (watch_at ws i d l)

pub taken_found : (ws : List Watching) (n i : ℕ) (entries : List Entry) (d : Watching) → i < length ws → n ≡ i + 1
    → after_take n entries ws ≡ set ws i (with_news (get_or ws i d) entries)
taken_found ws n i entries d l e =
    let next : suc i ≡ n = omega (arith, e) in
    subst (λ (k : ℕ). after_take k entries ws ≡ set ws i (with_news (get_or ws i d) entries)) next
    (taken_at ws i entries d l)

pub some_none : (w : Watching) → (let n : Option Watching = None in Some w ≡ n) → ⊥
some_none w e = cc
