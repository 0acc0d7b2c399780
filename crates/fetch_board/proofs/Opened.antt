-- What is so of a board and a seat as contracts see them is so of their fields.
use Rattle.std.proofs.Common.{◌≡◌, ℕ, ◌+◌, ◌<◌, ◌≤◌, ◌==◌, ◌&&◌, eqb, max, Bool, true, false, List, [], ◌∷◌, refl, ap}
use Rattle.std.proofs.Common.{sym, subst, arith}
use Rattle.std.specs.Prelude.{if◌then◌else◌}
use Rattle.std.proofs.Math.Nat.{max-le, le-max_left}
use Rattle.std.proofs.lemmas.Bool.{eqb-true}
use Rattle.fetch_board.specs.declared.seat_knowledge.SeatKnowledge.{SeatKnowledge}
use Rattle.fetch_board.specs.declared.word.Word.{Word}
use Rattle.fetch_board.specs.declared.word.Word.TheVariants.{Wanted, Held, Done, Spent}
use Rattle.fetch_board.specs.Counts.{one, pairs}
use Rattle.fetch_board.specs.Words.{IsAtMost}
use Rattle.fetch_board.specs.Seats.{BoardId, BoardTerms, SeatData, greatest, seen_of, looked}
use Rattle.fetch_board.specs.Answers.{Finds}
use Rattle.fetch_board.specs.Steps.{data_of}
use Rattle.fetch_board.specs.Steps as hands
use Rattle.fetch_board.proofs.Marks.{own, pair_own}

pub at_fields : {T : Type 0} {x y : SeatData T} {b c : BoardTerms} → x ≡ y → b ≡ c
    → (F : BoardTerms → SeatData T → Type 0) → F c y → F b x
at_fields {x = x} {c = c} e f F h = subst (λ k. F k x) (sym f) (subst (F c) (sym e) h)

-- where each number that stands with the item is at most n, so is the greatest
least : (here : Bool) (i n : ℕ) (x : ℕ × ℕ) (xs : List (ℕ × ℕ)) (rest : ℕ) → (x.0 == i) ≡ here
    → ((a : ℕ) → 0 < pairs i a (x ∷ xs) → a ≤ n) → rest ≤ n → (if here then max x.1 rest else rest) ≤ n
least true i n x xs rest is h low = let e : x.0 ≡ i = eqb-true x.0 i is in
    max-le (h x.1
    (subst (λ k. 0 < one (eqb x.0 k && eqb x.1 x.1) + pairs k x.1 xs) e (pair_own x.0 x.1 (pairs x.0 x.1 xs)))) low
least false i n x xs rest is h low = low

pub greatest_least : (i n : ℕ) (xs : List (ℕ × ℕ)) → ((a : ℕ) → 0 < pairs i a xs → a ≤ n) → greatest i xs ≤ n
greatest_least i n [] h = omega arith
greatest_least i n (x ∷ xs) h = least (x.0 == i) i n x xs (greatest i xs) refl h
    (greatest_least i n xs (λ a some. h a (omega arith)))

at_most_greatest : (i : ℕ) (xs : List (ℕ × ℕ)) (w : Word) → ((a : ℕ) → 0 < pairs i a xs → IsAtMost a w)
    → IsAtMost (greatest i xs) w
at_most_greatest i xs (Wanted b) h = greatest_least i b xs h
at_most_greatest i xs (Held b) h = greatest_least i b xs h
at_most_greatest i xs (Done b) h = tt
at_most_greatest i xs Spent h = tt

-- what a look finds, as contracts see it
pub finds_seat : {T : Type 0} (b b' : BoardId) (v v' : SeatKnowledge T) (d : SeatData T) (i r : ℕ) (w : Word)
    → data_of b v ≡ d
    → b' ≡ b → hands.Finds v i r w v' → Finds i w d (data_of b' v')
finds_seat b b' v v' d i r w is same f = subst (λ e. Finds i w e (data_of b' v')) is
    (subst (λ k. Finds i w (data_of b v) (data_of k v')) (sym same)
    (record { within = f.1; later = at_most_greatest i v.seen w f.2; learns = ap (data_of b) f.3 }))

pub finds_word : {T : Type 0} {i : ℕ} {w w' : Word} {v u : SeatData T} → w ≡ w' → Finds i w v u → Finds i w' v u
finds_word {i = i} {v = v} {u = u} is f = subst (λ k. Finds i k v u) is f

-- a number that was found is among those seen
seen_here : (i a : ℕ) (xs : List (ℕ × ℕ)) → a ≤ greatest i ((i, a) ∷ xs)
seen_here i a xs = rw (own i) (le-max_left a (greatest i xs))

-- what is so where the item was found wanted
pub wanted_found : {T : Type 0} {i a : ℕ} {w : Word} {v u : SeatData T} → w ≡ Wanted a → Finds i w v u
    → (a < v.tries) × (u ≡ looked i (Wanted a) v) × (a ≤ seen_of i u)
wanted_found {i = i} {a = a} {v = v} {u = u} is f = let g = finds_word is f in
    (g.within, g.learns, subst (λ k. a ≤ seen_of i k) (sym g.learns) (seen_here i a v.seen))
