-- What stands between places, and which of it is of the least part.
use Rattle.std.proofs.Common.{◌≡◌, ◌⊎◌, inl, inr, ℕ, zero, suc, ◌+◌, ◌<◌, ◌≤◌, true, List, [], ◌∷◌, ◌++◌, length}
use Rattle.std.proofs.Common.{get_or, take, drop, set, Option, None, refl, sym, ap, subst, ◌∙◌, arith}
use Rattle.std.specs.List.{remove}
use Rattle.std.proofs.lemmas.List.{drop_more, drop-set-lt, length-set}
use Rattle.std.proofs.lemmas.List.Edits.{length-remove}
use Rattle.std.proofs.lemmas.Grind.{take-set_at}
use Rattle.sorted_lists.specs.Members.{In}
use Rattle.sorted_lists.proofs.Sets.{in_append}
use Rattle.sorted_lists.proofs.Members.{in_drop, in_take, at_drop}
use Rattle.sorted_lists.proofs.LeastOnes.{first_of_both}
use Rattle.repo_plan.proofs.Orders.{exact_parts}
use Rattle.repo_store.specs.declared.blocks.Block.{Block}
use Rattle.repo_store.specs.PacketTable.{Stored}
use Rattle.repo_store.specs.Indexes.{IsFirstOf, held_part, lesser}
use Rattle.repo_store.specs.Blocks.{piece, IsBlock, AreBlocks, IsNear, AreNear, StaysBlock}

-- ---- pieces

piece_nothing : (start end : ℕ) → piece start end [] ≡ []
piece_nothing zero zero = refl
piece_nothing zero (suc end) = refl
piece_nothing (suc start) zero = refl
piece_nothing (suc start) (suc end) = refl

pub piece_empty : (place : ℕ) (held : List Stored) → piece place place held ≡ []
piece_empty zero held = refl
piece_empty (suc place) [] = refl
piece_empty (suc place) (x ∷ held) = piece_empty place held

-- a piece is two
piece_parts : (held : List Stored) (start from end : ℕ) → start ≤ from → from ≤ end
    → piece start end held ≡ piece start from held ++ piece from end held
piece_parts [] start from end low high =
    piece_nothing start end
    ∙ (λ i. sym (piece_nothing start from) i ++ sym (piece_nothing from end) i)
piece_parts (x ∷ held) zero zero end low high = refl
piece_parts (x ∷ held) zero (suc from) zero low high = absurd (omega (arith, high))
piece_parts (x ∷ held) zero (suc from) (suc end) low high =
    ap (λ (xs : List Stored). x ∷ xs) (piece_parts held 0 from end (omega arith) (omega (arith, high)))
piece_parts (x ∷ held) (suc start) zero end low high = absurd (omega (arith, low))
piece_parts (x ∷ held) (suc start) (suc from) zero low high = absurd (omega (arith, high))
piece_parts (x ∷ held) (suc start) (suc from) (suc end) low high =
    piece_parts held start from end (omega (arith, low)) (omega (arith, high))

-- where one is removed after it, a piece stays where it is
taken_before : (held : List Stored) (place end : ℕ) → end ≤ place → take end (remove held place) ≡ take end held
taken_before [] zero zero low = refl
taken_before [] zero (suc end) low = absurd (omega (arith, low))
taken_before [] (suc place) zero low = refl
taken_before [] (suc place) (suc end) low = refl
taken_before (x ∷ held) place zero low = refl
taken_before (x ∷ held) zero (suc end) low = absurd (omega (arith, low))
taken_before (x ∷ held) (suc place) (suc end) low =
    ap (λ (xs : List Stored). x ∷ xs) (taken_before held place end (omega (arith, low)))

-- where one is removed in front of it, it moves by one place
piece_after : (held : List Stored) (place start end : ℕ) → place ≤ start
    → piece start end (remove held place) ≡ piece (suc start) (suc end) held
piece_after [] zero start end low = piece_nothing start end
piece_after [] (suc place) start end low = piece_nothing start end
piece_after (x ∷ held) zero start end low = refl
piece_after (x ∷ held) (suc place) zero end low = absurd (omega (arith, low))
piece_after (x ∷ held) (suc place) (suc start) zero low = refl
piece_after (x ∷ held) (suc place) (suc start) (suc end) low = piece_after held place start end (omega (arith, low))

-- ---- one is removed

pub stays_before : (place : ℕ) (left : List Stored) (b : Block) → b.end ≤ place → StaysBlock place left b b
stays_before place left b low held within is block = record {
  rises = block.rises;
  within = omega (arith, low, within, ap length is, length-remove held place within);
  least =
      subst (λ (xs : List Stored). IsFirstOf (drop b.start xs) (λ h. true) b.least)
      (sym (ap (take b.end) is ∙ taken_before held place b.end low)) block.least;
}

pub stays_after : (place : ℕ) (left : List Stored) (b moved : Block) → place < b.start → moved.start + 1 ≡ b.start
    → moved.end + 1 ≡ b.end → moved.least ≡ b.least → StaysBlock place left b moved
stays_after place left b moved low start end least held within is block = record {
  rises = omega (arith, block.rises, start, end);
  within = omega (arith, block.within, end, ap length is, length-remove held place within);
  least =
      subst (λ (xs : List Stored). IsFirstOf xs (λ h. true) moved.least)
      (sym (ap (piece moved.start moved.end) is
      ∙ piece_after held place moved.start moved.end (omega (arith, low, start))
      ∙ (λ i. piece (start' i) (end' i) held)))
      (subst (IsFirstOf (piece b.start b.end held) (λ h. true)) (sym least) block.least);
}
  where
    start' : suc moved.start ≡ b.start
    start' = omega (arith, start)

    end' : suc moved.end ≡ b.end
    end' = omega (arith, end)

pub near_blocks : (held left : List Stored) (place : ℕ) (blocks : List Block) → place < length held
    → left ≡ remove held place → AreBlocks held blocks → AreNear left blocks
near_blocks held left place blocks within is are b i =
    let block = are b i in
    (block.rises, omega (arith, block.within, ap length is, length-remove held place within))

-- those between two numbers
pub blocks_between : (held : List Stored) (blocks rest near : List Block) (from many : ℕ) → rest ≡ drop from blocks
    → near ≡ take many rest → AreBlocks held blocks → AreBlocks held near
blocks_between held blocks rest near from many is_rest is_near are b i =
    are b (in_drop from blocks b (subst (In b) is_rest (in_take many rest b (subst (In b) is_near i))))

-- how far the blocks are moved: those before a number are, and the others stand as they did
pub record Shifting (place : ℕ) (left : List Stored) (old now : List Block) (number : ℕ) : Type 0 where
  pub len : length now ≡ length old
  pub rest : drop number now ≡ drop number old
  pub moved : (held : List Stored) → place < length held → left ≡ remove held place → AreBlocks held old
      → AreBlocks left (take number now)

pub shifting_none : (place : ℕ) (left : List Stored) (blocks : List Block) → Shifting place left blocks blocks 0
shifting_none place left blocks = record { len = refl; rest = refl; moved = λ held within is are b i. absurd i }

module _ (place : ℕ) (left : List Stored) (old now : List Block) (number : ℕ) (d : Block)
    (s : Shifting place left old now number) (within : number < length now) where
  its : In (get_or now number d) old
  its = in_drop number old (get_or now number d) (subst (In (get_or now number d)) s.rest (at_drop now number d within))

  pub shifting_near : AreNear left old → IsNear left (get_or now number d)
  shifting_near near = near (get_or now number d) its

  pub shifting_more : (moved : Block) → StaysBlock place left (get_or now number d) moved
      → Shifting place left old (set now number moved) (number + 1)
  shifting_more moved stays = record {
    len = length-set now number moved ∙ s.len;
    rest = drop-set-lt (number + 1) now number moved (omega arith) ∙ rest;
    moved = λ held in_it is are b i.
        let taken = take-set_at now number (number + 1) moved refl within in
        elim (in_append (take number now) (moved ∷ []) b (subst (In b) taken i)) [
          | inl before ↦ s.moved held in_it is are b before
          | inr own ↦ elim (let j : (b ≡ moved) ⊎ ⊥ = own in j) [
            | inl e ↦ subst (IsBlock left) (sym e) (stays held in_it is (are (get_or now number d) its))
            | inr none ↦ absurd none
          ]
        ];
  }
    where
      rest : drop (number + 1) now ≡ drop (number + 1) old
      rest =
          sym (ap (drop 1) (drop_more now number d within))
          ∙ ap (drop 1) s.rest
          ∙ ap (drop 1) (drop_more old number d (omega (arith, within, s.len)))

-- ---- the least of a piece

-- what is of the least part between two places so far, and between this and a further one
pub least_more : (held : List Stored) (start from end : ℕ) (least next : Option Stored) → start ≤ from → from ≤ end
    → IsFirstOf (piece start from held) (λ h. true) least → IsFirstOf (piece from end held) (λ h. true) next
    → IsFirstOf (piece start end held) (λ h. true) (lesser least next)
least_more held start from end least next low high before after =
    subst (λ (xs : List Stored). IsFirstOf xs (λ h. true) (lesser least next))
    (sym (piece_parts held start from end low high))
    (first_of_both exact_parts held_part (piece start from held) (piece from end held) (λ h. true) least next before
    after)

pub least_none : (held : List Stored) (start : ℕ) → IsFirstOf (piece start start held) (λ h. true) None
least_none held start x i = subst (In x) (piece_empty start held) i.0

-- ---- blocks are made

pub blocks_more : (held : List Stored) (blocks : List Block) (more : Block) → AreBlocks held blocks → IsBlock held more
    → AreBlocks held (blocks ++ more ∷ [])
blocks_more held blocks more are is b i = elim (in_append blocks (more ∷ []) b i) [
  | inl before ↦ are b before
  | inr own ↦ elim (let j : (b ≡ more) ⊎ ⊥ = own in j) [
    | inl e ↦ subst (IsBlock held) (sym e) is
    | inr none ↦ absurd none
  ]
]
