-- The room that blocks take, when one of them changes, is split or goes.
use Rattle.std.proofs.Common.{◌≡◌, ◌≤◌, ◌<◌, ◌+◌, ◌-◌, ◌*◌, ℕ, zero, suc, max, arith, length, set, get_or, take}
use Rattle.std.proofs.Common.{inl, inr, List, [], ◌∷◌, refl, Vec, length-set}
use Rattle.std.specs.List.{insert, remove}
use Rattle.std.proofs.lemmas.List.Edits.{length-insert, length-remove}
use Rattle.sorted_lists.specs.BlockMap.{over, above_half, room, half, full, StaysInSplit, AreBlocks}
use Rattle.sorted_lists.proofs.Blocks.{filled_blocks}

module _ {K V A : Type 0} where
  over_prefix : (b : Vec (K × V) A) (bs : List (Vec (K × V) A)) → 0 < length bs
      → over (b ∷ bs) ≡ (length b.items - half) + over bs
  over_prefix b [] l = absurd (omega arith)
  over_prefix b (c ∷ bs) l = refl

  -- a block changes, and has at most `n` entries more
  pub over_more : (bs : List (Vec (K × V) A)) (i n : ℕ) (c d : Vec (K × V) A) → i < length bs
      → length c.items ≤ length (get_or bs i d).items + n → over (set bs i c) ≤ over bs + n
  over_more [] i n c d l h = absurd (omega arith)
  over_more (b ∷ []) zero n c d l h = omega (arith, h)
  over_more (b ∷ []) (suc i) n c d l h = absurd (omega arith)
  over_more (b ∷ e ∷ bs) zero n c d l h = omega (arith, h)
  over_more (b ∷ e ∷ bs) (suc i) n c d l h =
      omega (
        arith,
        over_prefix b (set (e ∷ bs) i c) (omega (arith, length-set (e ∷ bs) i c)),
        over_more (e ∷ bs) i n c d (omega arith) h,
      )

  -- a block that has come to be full is split
  pub over_split : (bs : List (Vec (K × V) A)) (i : ℕ) (b c d : Vec (K × V) A) → i < length bs
      → length (get_or bs i d).items + 1 ≡ full → length b.items + length c.items ≡ full
      → StaysInSplit (length bs) i (length b.items) → over (insert (set bs i b) (suc i) c) + half ≤ over bs + 1
  over_split [] i b c d l f s k = absurd (omega arith)
  over_split (x ∷ []) zero b c d l f s (inl h) = omega (arith, f, s, h)
  over_split (x ∷ []) zero b c d l f s (inr h) = omega (arith, f, s, h.0)
  over_split (x ∷ []) (suc i) b c d l f s k = absurd (omega arith)
  over_split (x ∷ y ∷ bs) zero b c d l f s (inl h) = omega (arith, f, s, h)
  over_split (x ∷ y ∷ bs) zero b c d l f s (inr h) = absurd (omega (arith, h.1))
  over_split (x ∷ y ∷ bs) (suc i) b c d l f s k =
      let len = length-insert (set (y ∷ bs) i b) (suc i) c (omega (arith, length-set (y ∷ bs) i b)) in
      omega (
        arith,
        over_prefix x (insert (set (y ∷ bs) i b) (suc i) c) (omega (arith, len)),
        over_split (y ∷ bs) i b c d (omega arith) f s (after k),
      )
    where
      after : StaysInSplit (length (x ∷ y ∷ bs)) (suc i) (length b.items)
          → StaysInSplit (length (y ∷ bs)) i (length b.items)
      after (inl h) = inl h
      after (inr h) = inr (h.0, omega (arith, h.1))

  -- a block goes
  pub over_remove : (bs : List (Vec (K × V) A)) (i : ℕ) → i < length bs → over (remove bs i) ≤ over bs + half
  over_remove [] i l = absurd (omega arith)
  over_remove (b ∷ []) zero l = omega arith
  over_remove (b ∷ []) (suc i) l = absurd (omega arith)
  over_remove (b ∷ c ∷ bs) zero l = omega arith
  over_remove (b ∷ c ∷ []) (suc zero) l = omega arith
  over_remove (b ∷ c ∷ []) (suc (suc i)) l = absurd (omega arith)
  over_remove (b ∷ c ∷ d ∷ bs) (suc i) l =
      omega (
        arith,
        over_prefix b (remove (c ∷ d ∷ bs) i) (omega (arith, length-remove (c ∷ d ∷ bs) i (omega arith))),
        over_remove (c ∷ d ∷ bs) i (omega arith),
      )

  -- what is over is hardly more than what is above half a block each
  pub over_above : (bs : List (Vec (K × V) A)) → over bs ≤ above_half bs + half
  over_above [] = omega arith
  over_above (b ∷ []) = omega arith
  over_above (b ∷ c ∷ bs) = omega (arith, over_above (c ∷ bs))

  -- one block more of those that are counted
  pub above_more : (bs : List (Vec (K × V) A)) (i : ℕ) (d : Vec (K × V) A) → i < length bs
      → above_half (take (suc i) bs) ≡ above_half (take i bs) + (length (get_or bs i d).items - half)
  above_more [] i d l = absurd (omega arith)
  above_more (b ∷ bs) zero d l = omega arith
  above_more (b ∷ bs) (suc i) d l = omega (arith, above_more bs i d (omega arith))

  pub above_within : (bs : List (Vec (K × V) A)) (i : ℕ) → i < length bs
      → above_half (take (suc i) bs) ≤ above_half bs
  above_within [] i l = absurd (omega arith)
  above_within (b ∷ bs) zero l = omega arith
  above_within (b ∷ bs) (suc i) l = omega (arith, above_within bs i (omega arith))

  pub above_bound : (bs : List (Vec (K × V) A)) → AreBlocks bs → above_half bs ≤ half * length bs
  above_bound [] f = omega arith
  above_bound (b ∷ bs) f = omega (arith, f.0.0, above_bound bs (filled_blocks bs f.1))

  pub room_is : (bs : List (Vec (K × V) A)) (n : ℕ) → 0 < length bs → room bs n ≡ max n (half * n - over bs)
  room_is [] n l = absurd (omega arith)
  room_is (b ∷ bs) n l = refl

  pub has_block : (bs : List (Vec (K × V) A)) (n : ℕ) → 0 < room bs n → 0 < length bs
  has_block [] n l = absurd (omega arith)
  has_block (b ∷ bs) n l = omega arith
