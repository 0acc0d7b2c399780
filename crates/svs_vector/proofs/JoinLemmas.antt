-- Joins and covering, place by place.
use Rattle.std.proofs.Common.{◌≡◌, ◌↔◌, ℕ, suc, zero, ◌≤◌, ◌<◌, max, Bool, true, false, not, List, [], ◌∷◌, map, length}
use Rattle.std.proofs.Common.{replicate, get_or, refl, sym, ap, ◌∙◌, subst, arith, IsFalse}
use Rattle.std.specs.Prelude.{nat_le, slice_index}
use Rattle.std.specs.List.{fold, Contains}
use Rattle.std.proofs.lemmas.Bool.{and_parts, and_from, leb-true, le-leb}
use Rattle.svs_vector.specs.Vectors.{join, Covers, covers, join_all, HaveSameVectors}

pub join-[] : (v : List ℕ) → join v [] ≡ v
unfolding join
join-[] [] = refl
join-[] (n ∷ v) = refl

pub join_comm : (v w : List ℕ) → join v w ≡ join w v
unfolding join
join_comm [] [] = refl
join_comm [] (m ∷ w) = refl
join_comm (n ∷ v) [] = refl
join_comm (n ∷ v) (m ∷ w) = let e : max n m ≡ max m n = omega arith in let t : join v w ≡ join w v = join_comm v w in cc

pub join_assoc : (u v w : List ℕ) → join (join u v) w ≡ join u (join v w)
unfolding join
join_assoc [] v w = refl
join_assoc (k ∷ u) [] w = refl
join_assoc (k ∷ u) (n ∷ v) [] = refl
join_assoc (k ∷ u) (n ∷ v) (m ∷ w) =
    let e : max (max k n) m ≡ max k (max n m) = omega arith in
    let t : join (join u v) w ≡ join u (join v w) = join_assoc u v w in cc

pub join_idem : (v : List ℕ) → join v v ≡ v
unfolding join
join_idem [] = refl
join_idem (n ∷ v) = let e : max n n ≡ n = omega arith in let t : join v v ≡ v = join_idem v in cc

pub join_again : (v w : List ℕ) → join (join v w) w ≡ join v w
join_again v w = join_assoc v w w ∙ ap (join v) (join_idem w)

pub length-join : (v w : List ℕ) → length v ≡ length w → length (join v w) ≡ length v
unfolding join
length-join [] [] e = refl
length-join [] (m ∷ w) e = absurd (omega arith)
length-join (n ∷ v) [] e = refl
length-join (n ∷ v) (m ∷ w) e = ap suc (length-join v w (omega arith))

pub join-at : (v w : List ℕ) (p : ℕ) → slice_index (join v w) p ≡ max (slice_index v p) (slice_index w p)
unfolding join
join-at [] w p = omega arith
join-at (n ∷ v) [] p = omega arith
join-at (n ∷ v) (m ∷ w) zero = refl
join-at (n ∷ v) (m ∷ w) (suc p) = join-at v w p

fold_max : (a b : ℕ) (ns : List ℕ) → fold max (max a b) ns ≡ max a (fold max b ns)
fold_max a b [] = refl
fold_max a b (n ∷ ns) =
    let e : max (max a b) n ≡ max a (max b n) = omega arith in ap (λ (x : ℕ). fold max x ns) e ∙ fold_max a (max b n) ns

pub join_all-at : (vs : List (List ℕ)) (p : ℕ)
    → slice_index (join_all vs) p ≡ fold max 0 (map (λ v. slice_index v p) vs)
unfolding join_all
join_all-at [] p = refl
join_all-at (v ∷ vs) p =
    let e : slice_index (join v (join_all vs)) p ≡ max (slice_index v p) (slice_index (join_all vs) p) =
    join-at v (join_all vs) p in
    let t : slice_index (join_all vs) p ≡ fold max 0 (map (λ v. slice_index v p) vs) = join_all-at vs p in
    let s : max 0 (slice_index v p) ≡ max (slice_index v p) 0 = omega arith in
    let f : fold max (max (slice_index v p) 0) (map (λ v. slice_index v p) vs)
    ≡ max (slice_index v p) (fold max 0 (map (λ v. slice_index v p) vs)) =
    fold_max (slice_index v p) 0 (map (λ v. slice_index v p) vs) in
    cc

pub covers_Covers : (v w : List ℕ) → covers v w ≡ true → Covers v w
unfolding join covers
covers_Covers v [] h = join-[] v
covers_Covers [] (m ∷ w) h = absurd cc
covers_Covers (n ∷ v) (m ∷ w) h =
    let both : (nat_le m n ≡ true) × (covers v w ≡ true) = and_parts (nat_le m n) (covers v w) h in
    let le : m ≤ n = leb-true m n both.0 in
    let e : max n m ≡ n = omega arith in
    let t : join v w ≡ v = covers_Covers v w both.1 in
    cc

pub Covers_covers : (v w : List ℕ) → Covers v w → covers v w ≡ true
unfolding join covers
Covers_covers v [] h = refl
Covers_covers [] (m ∷ w) h = absurd cc
Covers_covers (n ∷ v) (m ∷ w) h =
    let e : max n m ≡ n = cc in
    let t : join v w ≡ v = cc in
    and_from (nat_le m n) (covers v w) (le-leb m n (omega (arith, e))) (Covers_covers v w t)

pub covers_first : (v w : List ℕ) → Covers (join v w) v
covers_first v w = join_comm (join v w) v ∙ (sym (join_assoc v v w) ∙ ap (λ (x : List ℕ). join x w) (join_idem v))

pub covers_least : (u v w : List ℕ) → Covers u v → Covers u w → Covers u (join v w)
covers_least u v w a b = sym (join_assoc u v w) ∙ (ap (λ (x : List ℕ). join x w) a ∙ b)

pub covers_both_ways : (v w : List ℕ) → Covers v w → Covers w v → v ≡ w
covers_both_ways v w a b = sym a ∙ (join_comm v w ∙ b)

pub fold_join : (v : List ℕ) (ws : List (List ℕ)) → fold join v ws ≡ join v (join_all ws)
unfolding join_all
fold_join v [] = sym (join-[] v)
fold_join v (w ∷ ws) = fold_join (join v w) ws ∙ join_assoc v w (join_all ws)

pub fold_is_join_all : (v : List ℕ) (ws : List (List ℕ)) → fold join v ws ≡ join_all (v ∷ ws)
unfolding join_all
fold_is_join_all v ws = fold_join v ws

-- the join of all covers each
pub covers_each : (ws : List (List ℕ)) (w : List ℕ) (k : ℕ) → k < length ws → get_or ws k w ≡ w → Covers (join_all ws) w
unfolding join_all
covers_each [] w k h e = absurd (omega arith)
covers_each (v ∷ ws) w zero h e =
    subst (λ (x : List ℕ). Covers (join v (join_all ws)) x) e (covers_first v (join_all ws))
covers_each (v ∷ ws) w (suc k) h e = join_assoc v (join_all ws) w ∙ ap (join v) (covers_each ws w k (omega arith) e)

pub covers_all : (u : List ℕ) (ws : List (List ℕ)) → ((w : List ℕ) → Contains ws w → Covers u w)
    → Covers u (join_all ws)
unfolding join_all
covers_all u [] each = join-[] u
covers_all u (w ∷ ws) each =
    covers_least u w (join_all ws) (each w (0, omega arith, refl))
    (covers_all u ws (λ x c. each x (suc c.0, (let l : c.0 < length ws = c.1 in omega arith), c.2)))

pub join_all_same : (us ws : List (List ℕ)) → HaveSameVectors us ws → join_all us ≡ join_all ws
join_all_same us ws same = covers_both_ways (join_all us) (join_all ws)
    (covers_all (join_all us) ws (λ w c. let d : Contains us w = (same w).1 c in covers_each us w d.0 d.1 d.2))
    (covers_all (join_all ws) us (λ u c. let d : Contains ws u = (same u).0 c in covers_each ws u d.0 d.1 d.2))

pub fold_join_same : (v : List ℕ) (us ws : List (List ℕ)) → HaveSameVectors us ws → fold join v us ≡ fold join v ws
fold_join_same v us ws same = fold_join v us ∙ (ap (join v) (join_all_same us ws same) ∙ sym (fold_join v ws))

-- a change is reported of exactly where there is one
pub received_of_changes : (changed : Bool) (v w new : List ℕ) → changed ≡ not (covers v w) → new ≡ join v w
    → IsFalse changed ↔ (new ≡ v)
received_of_changes changed v w new received joined = (
  λ none. joined ∙ covers_Covers v w (covered (covers v w) (sym received ∙ none)),
  λ same. received ∙ ap not (Covers_covers v w (sym joined ∙ same)),
) where
  covered : (b : Bool) → not b ≡ false → b ≡ true
  covered true e = refl
  covered false e = absurd cc

-- a vector that is covered joins into what covers it
pub join_covered : (v w : List ℕ) → Covers w v → join v w ≡ w
join_covered v w h = join_comm v w ∙ h

pub join_zeros : (n : ℕ) (w : List ℕ) → n ≤ length w → join (replicate n 0) w ≡ w
unfolding join
join_zeros zero w h = refl
join_zeros (suc n) [] h = absurd (omega arith)
join_zeros (suc n) (m ∷ w) h =
    let e : max 0 m ≡ m = omega arith in let t : join (replicate n 0) w ≡ w = join_zeros n w (omega arith) in cc
