-- The numbers of the publishers that are asked.
use Rattle.std.proofs.Common.{◌≡◌, ℕ, zero, suc, ◌+◌, max, Bool, true, false, cond, List, [], ◌∷◌, length, replicate}
use Rattle.std.proofs.Common.{Option, take, add-one, ◌<◌, refl, sym, ap, ◌∙◌, arith}
use Rattle.std.specs.Prelude.{slice_index, slice_set}
use Rattle.svs_vector.specs.Vectors.{join}
use Rattle.svs_vector.proofs.JoinLemmas.{join-[]}
use Rattle.repo_watch.specs.Patterns.{is_publisher}
use Rattle.repo_mirror.specs.Asked.{asked_numbers}

pub asked_none : (asked : Option ℕ) (p n : ℕ) → let z : ℕ = 0 in asked_numbers asked p (replicate n z) ≡ replicate n z
asked_none asked p zero = refl
asked_none asked p (suc n) = go (is_publisher asked p) (asked_none asked (p + 1) n) where
  go : (b : Bool) → (let z : ℕ = 0 in asked_numbers asked (p + 1) (replicate n z) ≡ replicate n z)
      → (let z : ℕ = 0 in (cond b z z) ∷ asked_numbers asked (p + 1) (replicate n z) ≡ z ∷ replicate n z)
  go true h = ap (λ (rest : List ℕ). 0 ∷ rest) h
  go false h = ap (λ (rest : List ℕ). 0 ∷ rest) h

pub length-asked : (asked : Option ℕ) (p : ℕ) (ns : List ℕ) → length (asked_numbers asked p ns) ≡ length ns
length-asked asked p [] = refl
length-asked asked p (n ∷ ns) = ap suc (length-asked asked (p + 1) ns)

-- what is reported of one publisher more
next_asked : (asked : Option ℕ) (p : ℕ) (v received : List ℕ) (i q : ℕ) → p + i ≡ q → i < length received
    → length received ≡ length v
    → slice_set (asked_numbers asked p (join v (take i received))) i
    (max (slice_index (asked_numbers asked p (join v (take i received))) i)
    (cond (is_publisher asked q) (slice_index received i) 0))
    ≡ asked_numbers asked p (join v (take (suc i) received))
unfolding join
next_asked asked p [] received i q e inside same = absurd (omega (arith, inside, same))
next_asked asked p (x ∷ v) [] i q e inside same = absurd (omega (arith, inside))
next_asked asked p (x ∷ v) (y ∷ received) zero q e inside same =
    ap (λ (k : ℕ).
    max (cond (is_publisher asked p) x 0) (cond (is_publisher asked k) y 0) ∷ asked_numbers asked (p + 1) v) here
    ∙ ap (λ (k : ℕ). k ∷ asked_numbers asked (p + 1) v) (both (is_publisher asked p))
    ∙ ap (λ (rest : List ℕ). cond (is_publisher asked p) (max x y) 0 ∷ asked_numbers asked (p + 1) rest)
    (sym (join-[] v)) where
      here : q ≡ p
      here = omega (arith, e)

      both : (b : Bool) → max (cond b x 0) (cond b y 0) ≡ cond b (max x y) 0
      both true = refl
      both false = omega arith
next_asked asked p (x ∷ v) (y ∷ received) (suc i) q e inside same =
    ap (λ (rest : List ℕ). cond (is_publisher asked p) (max x y) 0 ∷ rest)
    (next_asked asked (p + 1) v received i q (omega (arith, e)) (omega (arith, inside)) (omega (arith, same)))

pub asked_next : (asked : Option ℕ) (v received : List ℕ) (i : ℕ) → i < length received → length received ≡ length v
    → slice_set (asked_numbers asked 0 (join v (take i received))) i
    (max (slice_index (asked_numbers asked 0 (join v (take i received))) i)
    (cond (is_publisher asked i) (slice_index received i) 0))
    ≡ asked_numbers asked 0 (join v (take (i + 1) received))
asked_next asked v received i inside same =
    next_asked asked 0 v received i i (omega arith) inside same
    ∙ ap (λ (n : ℕ). asked_numbers asked 0 (join v (take n received))) (sym (add-one i))
