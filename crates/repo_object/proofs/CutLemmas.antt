-- Pieces, one after another.
use Rattle.std.proofs.Common.{◌≡◌, ℕ, zero, suc, ◌+◌, ◌-◌, ◌*◌, ◌<◌, ◌≤◌, min, List, [], ◌∷◌, ◌++◌, length}
use Rattle.std.proofs.Common.{length-append, length-drop, length-take, map, take, drop, take_at, drop_at, drop-drop}
use Rattle.std.proofs.Common.{append_assoc, Vec, Global, refl, sym, ap, subst, ◌∙◌, inl, inr, arith}
use Rattle.std.specs.Int.{div_ceil}
use Rattle.std.specs.List.{All, flat_map, slice_index_or}
use Rattle.std.proofs.Math.Nat.{div-eq-sub-div, mod-eq-sub-mod, div-eq_of_lt, mod-eq_of_lt, zero-div}
use Rattle.std.proofs.lemmas.Bool.{cases_lt, cases_eq}
use Rattle.std.proofs.lemmas.List.{take-append-drop, take_all, drop_all, nil_from_length, append-nil, length-map}
use Rattle.std.proofs.lemmas.List.{get_or-map}
use Rattle.std.proofs.lemmas.List.Elements.{All-nil, All-cons, All-head}
use Rattle.sorted_lists.specs.Range.{numbers_from}
use Rattle.sorted_lists.proofs.Ranges.{length-numbers}
use Rattle.repo_object.specs.Cuts.{piece, pieces, AreCut}

-- the pieces after the first are the pieces of the content after its first `size` octets
pieces_after : (size : ℕ) (content : List ℕ) (first n : ℕ)
    → map (piece size content) (numbers_from (first + 1) n)
    ≡ map (piece size (drop size content)) (numbers_from first n)
pieces_after size content first zero = refl
pieces_after size content first (suc n) =
    let far : size + first * size ≡ (first + 1) * size = omega arith in
    let here : piece size content (first + 1) ≡ piece size (drop size content) first =
    ap (take size) (sym (drop-drop (first * size) size content ∙ ap (λ (k : ℕ). drop k content) far)) in
    ap (λ (p : List ℕ). p ∷ map (piece size content) (numbers_from (first + 1 + 1) n)) here
    ∙ ap (λ (ps : List (List ℕ)). piece size (drop size content) first ∷ ps) (pieces_after size content (first + 1) n)

count-none : (size : ℕ) → 0 < size → div_ceil 0 size ≡ 0
count-none size some = omega (arith, zero-div size, mod-eq_of_lt {n = 0} some)

count-more : (size len : ℕ) → 0 < size → 0 < len → div_ceil len size ≡ suc (div_ceil (len - size) size)
count-more size len some more =
    elim (cases_lt len size) [
      | inl few ↦
          let none : len - size ≡ 0 = omega arith in
          let one : div_ceil len size ≡ 1 = omega (arith, div-eq_of_lt {n = len} few, mod-eq_of_lt {n = len} few) in
          one ∙ ap suc (sym (count-none size some) ∙ ap (λ (n : ℕ). div_ceil n size) (sym none))
      | inr many ↦
          omega (arith, div-eq-sub-div {m = size} {n = len} some many, mod-eq-sub-mod {n = len} {m = size} many)
    ]

pub pieces-nil : (size : ℕ) (content : List ℕ) → 0 < size → length content ≡ 0 → pieces size content ≡ []
pieces-nil size content some none =
    ap (λ (n : ℕ). map (piece size content) (numbers_from 0 n))
    (ap (λ (len : ℕ). div_ceil len size) none ∙ count-none size some)

pub pieces-more : (size : ℕ) (content : List ℕ) → 0 < size → 0 < length content
    → pieces size content ≡ take size content ∷ pieces size (drop size content)
pieces-more size content some more =
    let begins : 0 * size ≡ 0 = omega arith in
    let n = div_ceil (length content - size) size in
    ap (λ (n : ℕ). map (piece size content) (numbers_from 0 n)) (count-more size (length content) some more)
    ∙ ap (λ (k : ℕ). take size (drop k content) ∷ map (piece size content) (numbers_from 1 n)) begins
    ∙ ap (λ (ps : List (List ℕ)). take size content ∷ ps)
    (pieces_after size content 0 (div_ceil (length content - size) size)
    ∙ ap (λ (len : ℕ). map (piece size (drop size content)) (numbers_from 0 (div_ceil len size)))
    (sym (length-drop size content)))

-- ---- a cutting, one piece on

split_off : (size : ℕ) (rest piece more : List ℕ) → rest ≡ piece ++ more → length piece ≡ min size (length rest)
    → (take size rest ≡ piece) × (drop size rest ≡ more)
split_off size rest piece more is long =
    let total = ap length is ∙ length-append piece more in
    elim (cases_lt (length rest) size) [
      | inl short ↦
          let none : more ≡ [] = nil_from_length more (omega (arith, total)) in (
            take_all size rest (omega arith) ∙ is ∙ ap (λ (m : List ℕ). piece ++ m) none ∙ append-nil piece,
            drop_all size rest (omega arith) ∙ sym none,
          )
      | inr enough ↦ (
        ap (take size) is ∙ take_at piece more size (omega arith),
        ap (drop size) is ∙ drop_at piece more size (omega arith),
      )
    ]

pub cut_more : (size : ℕ) (made : List (List ℕ)) (rest piece more : List ℕ) (whole : List (List ℕ)) → 0 < size
    → 0 < length rest
    → rest ≡ piece ++ more → length piece ≡ min size (length rest) → made ++ pieces size rest ≡ whole
    → (made ++ piece ∷ []) ++ pieces size more ≡ whole
cut_more size made rest piece more whole some left is long so_far =
    let split = split_off size rest piece more is long in
    append_assoc made (piece ∷ []) (pieces size more)
    ∙ ap (λ (p : List ℕ). made ++ p ∷ pieces size more) (sym split.0)
    ∙ ap (λ (m : List ℕ). made ++ take size rest ∷ pieces size m) (sym split.1)
    ∙ ap (λ (ps : List (List ℕ)). made ++ ps) (sym (pieces-more size rest some left))
    ∙ so_far

-- ---- pieces are the content

abbrev Piece : ℕ → List ℕ → Type 0
Piece size p = (0 < length p) × (length p ≤ size)

abbrev joined : List (List ℕ) → List ℕ
joined ps = flat_map (λ p. p) ps

-- where a piece follows, the rest of the content is not empty
left_over : (size : ℕ) (ps : List (List ℕ)) (rest : List ℕ) → joined ps ≡ rest → All (Piece size) ps → 0 < length ps
    → 0 < length rest
left_over size [] rest e all some = absurd (omega arith)
left_over size (p ∷ ps) rest e all some =
    let first = All-head (Piece size) p ps all in
    omega (arith, first.0, ap length e, length-append p (joined ps))

first_full : (size : ℕ) (content : List ℕ) (ps : List (List ℕ)) → AreCut size (drop size content) ps
    → (k : ℕ) → k + 1 < length (take size content ∷ ps) → length (slice_index_or (take size content ∷ ps) k []) ≡ size
first_full size content ps rest zero h =
    let left = left_over size ps (drop size content) rest.joined rest.none_is_empty (omega arith) in
    omega (arith, left, length-drop size content, length-take size content)
first_full size content ps rest (suc k) h = rest.full k (omega arith)

one_more : (size : ℕ) (content : List ℕ) (ps : List (List ℕ)) → 0 < size → 0 < length content
    → AreCut size (drop size content) ps → AreCut size content (take size content ∷ ps)
one_more size content ps some more rest = record {
  joined = ap (λ (r : List ℕ). take size content ++ r) rest.joined ∙ take-append-drop size content;
  full = first_full size content ps rest;
  none_is_empty =
      All-cons (Piece size) (take size content) ps
      (omega (arith, length-take size content), omega (arith, length-take size content)) rest.none_is_empty;
}

no_piece : (size : ℕ) (content : List ℕ) → length content ≡ 0 → AreCut size content []
no_piece size content none = record {
  joined = sym (nil_from_length content none);
  full = λ k h. absurd (omega arith);
  none_is_empty = All-nil (Piece size);
}

cut_within : (n size : ℕ) (content : List ℕ) → length content ≤ n → 0 < size → AreCut size content (pieces size content)
cut_within zero size content few some =
    let none : length content ≡ 0 = omega arith in
    subst (AreCut size content) (sym (pieces-nil size content some none)) (no_piece size content none)
cut_within (suc n) size content few some =
    elim (cases_eq (length content) 0) [
      | inl none ↦ subst (AreCut size content) (sym (pieces-nil size content some none)) (no_piece size content none)
      | inr more ↦
          let left : 0 < length content = omega arith in
          let rest = cut_within n size (drop size content) (omega (arith, length-drop size content)) some in
          subst (AreCut size content) (sym (pieces-more size content some left))
          (one_more size content (pieces size (drop size content)) some left rest)
    ]

pub cut_pieces : (size : ℕ) (content : List ℕ) → 0 < size → AreCut size content (pieces size content)
cut_pieces size content some = cut_within (length content) size content (omega arith) some

-- ---- what was cut

module _ (size : ℕ) (content : List ℕ) (made : List (Vec ℕ Global))
    (are : map (λ p. p.items) made ≡ pieces size content) where
  pub cut_count : length made ≡ div_ceil (length content) size
  cut_count =
      let n = div_ceil (length content) size in
      sym (length-map made (λ p. p.items))
      ∙ ap length are
      ∙ length-map (numbers_from 0 n) (piece size content)
      ∙ length-numbers 0 n

  pub cut_sizes : 0 < size → All (λ p. Piece size p.items) made
  cut_sizes some k d low =
      let all = subst (All (Piece size)) (sym are) (cut_pieces size content some).none_is_empty in
      subst (Piece size) (get_or-map (λ p. p.items) made k d d.items low)
      (all k d.items (omega (arith, length-map made (λ p. p.items))))

-- at the end nothing is left to cut
pub cut_done : (size : ℕ) (made : List (List ℕ)) (rest : List ℕ) (whole : List (List ℕ)) → 0 < size → length rest ≡ 0
    → made ++ pieces size rest ≡ whole → made ≡ whole
cut_done size made rest whole some none so_far =
    sym (append-nil made) ∙ ap (λ (ps : List (List ℕ)). made ++ ps) (sym (pieces-nil size rest some none)) ∙ so_far
