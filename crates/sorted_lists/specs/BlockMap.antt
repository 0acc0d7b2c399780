-- Maps in blocks, in order of their keys.
use Rattle.std.specs.Prelude.{ℕ, zero, suc, ◌≡◌, ◌+◌, ◌-◌, ◌*◌, ◌^◌, ◌<◌, ◌≤◌, ◌⊎◌, max, Bool, true}
use Rattle.std.specs.Prelude.{List, [], ◌∷◌, ◌++◌, length, Vec}
use Rattle.std.specs.Prelude.{vec_len, vec_capacity, is_some}
use Rattle.std.specs.List.{All}
use Rattle.std.specs.Ordering.{is_le}
use Rattle.std.specs.declared.cmp.Ordering.{Ordering}
use Rattle.std.specs.declared.cmp.Ordering.TheVariants.{Less}
use Rattle.sorted_lists.specs.declared.block_map.BlockMap.{BlockMap}
use Rattle.sorted_lists.specs.SortedList.{keys, IsBefore, Rises, last_up_to}

-- the number of entries at which a block is split
abbrev pub full : ℕ
full = 64

-- how many of them stay in it
abbrev pub half : ℕ
half = 32

-- how many entries of a full block stay when it is split, by the number of blocks and its place: half of them, or all
-- but one where it is the last
abbrev pub StaysInSplit : ℕ → ℕ → ℕ → Type 0
StaysInSplit blocks place n = (n ≡ half) ⊎ ((n + 1 ≡ full) × (place + 1 ≡ blocks))

module _ {K V A : Type 0} where
  -- what blocks have, one after the other
  abbrev pub joined : List (Vec (K × V) A) → List (K × V)
  joined [] = []
  joined (b ∷ bs) = b.items ++ joined bs

  -- how much is in them above half a block each, and in the last, after which a block can begin, above one entry
  abbrev pub over : List (Vec (K × V) A) → ℕ
  over [] = 0
  over (b ∷ []) = length b.items - 1
  over (b ∷ c ∷ bs) = (length b.items - half) + over (c ∷ bs)

  -- how much is in them above half a block each
  abbrev pub above_half : List (Vec (K × V) A) → ℕ
  above_half [] = 0
  above_half (b ∷ bs) = (length b.items - half) + above_half bs

  -- for how many more entries there is room in these blocks, by the number of empty ones to split them: none where
  -- there is no block. An entry takes one empty block at most, and when half a block of entries came beyond what was
  -- over, at most one was taken for them
  abbrev pub room : List (Vec (K × V) A) → ℕ → ℕ
  room [] n = 0
  room (b ∷ bs) n = max n (half * n - over (b ∷ bs))

  -- an empty block
  abbrev pub IsBlank : Vec (K × V) A → Type 0
  IsBlank b = (b.items ≡ []) × (full ≤ vec_capacity b)

  -- one that has capacity for an entry
  abbrev pub IsOpen : Vec (K × V) A → Type 0
  IsOpen b = (length b.items < full) × (full ≤ vec_capacity b)

  -- such ones that have entries
  abbrev pub AreFilled : List (Vec (K × V) A) → Type 0
  AreFilled [] = Unit {0}
  AreFilled (b ∷ bs) = (0 < length b.items) × IsOpen b × AreFilled bs

  -- a map's blocks: only the first may have none
  abbrev pub AreBlocks : List (Vec (K × V) A) → Type 0
  AreBlocks [] = Unit {0}
  AreBlocks (b ∷ bs) = IsOpen b × AreFilled bs

module _ {K V : Type 0} (R : K → K → Ordering) where
  -- whether the first key, if there is one, is not above this one
  abbrev pub begins_up_to : K → List (K × V) → Bool
  begins_up_to k [] = true
  begins_up_to k (e ∷ es) = is_le (R e.0 k)

  -- these keys are before this one
  abbrev pub AreBefore : List (K × V) → K → Type 0
  AreBefore [] k = Unit {0}
  AreBefore (e ∷ es) k = (R e.0 k ≡ Less) × AreBefore es k

  -- the key belongs into the block at this place: all keys of the blocks before are less, all of those after greater,
  -- and some key from the block on is not greater where the block isn't the first
  abbrev pub IsPlace : {A : Type 0} → K → List (Vec (K × V) A) → ℕ → Type 0
  IsPlace k [] i = Unit {0}
  IsPlace k (b ∷ bs) zero = IsBefore R k (keys (joined bs))
  IsPlace k (b ∷ bs) (suc i) = AreBefore b.items k × (is_some (last_up_to R k (joined bs)) ≡ true) × IsPlace k bs i

module _ {K V : Type 0} where
  -- All entries of the blocks, in order of their keys.
  abbrev pub entries : BlockMap K V → List (K × V)
  entries m = joined m.blocks.items

  -- for how many more entries there is capacity
  abbrev pub spare : BlockMap K V → ℕ
  spare m = room m.blocks.items (vec_len m.spare)

  -- what holds of every map: the keys are in order, each once; a block can gain an entry, and be split in place; a
  -- block that is emptied can be kept; the entries can be counted
  pub record IsMap (R : K → K → Ordering) (m : BlockMap K V) : Type 0 where
    pub rises : Rises R (keys (entries m))
    pub sizes : AreBlocks m.blocks.items
    pub spare : All IsBlank m.spare.items
    pub room : vec_len m.blocks + vec_len m.spare ≤ vec_capacity m.blocks
    pub back : vec_len m.blocks + vec_len m.spare ≤ vec_capacity m.spare
    pub few : vec_len m.blocks + vec_len m.spare < 2 ^ 57
