-- The settled entries of an index by name, in blocks.
use Rattle.std.specs.Prelude.{◌≡◌, ℕ, ◌+◌, ◌<◌, ◌≤◌, true, List, length, take, drop}
use Rattle.std.specs.List.{remove}
use Rattle.sorted_lists.specs.Members.{In}
use Rattle.repo_store.specs.declared.blocks.Block.{Block}
use Rattle.repo_store.specs.PacketTable.{Stored}
use Rattle.repo_store.specs.Indexes.{IsFirstOf}

-- The entries of `held` from place `start` on, before place `end`.
abbrev pub piece : ℕ → ℕ → List Stored → List Stored
piece start end held = drop start (take end held)

-- The block `b` lies within `held`, and `b.least` is the entry of the block with the least part, or `None` if it is
-- empty.
pub record IsBlock (held : List Stored) (b : Block) : Type 0 where
  pub rises : b.start ≤ b.end
  pub within : b.end ≤ length held
  pub least : IsFirstOf (piece b.start b.end held) (λ h. true) b.least

-- Each of `blocks` is a block of `held`.
abbrev pub AreBlocks : List Stored → List Block → Type 0
AreBlocks held blocks = (b : Block) → In b blocks → IsBlock held b

-- The block `b` doesn't end before its start, nor more than one place after the end of `left`.
abbrev pub IsNear : List Stored → Block → Type 0
IsNear left b = (b.start ≤ b.end) × (b.end ≤ length left + 1)

-- No block of `blocks` ends before its start, nor more than one place after the end of `left`.
abbrev pub AreNear : List Stored → List Block → Type 0
AreNear left blocks = (b : Block) → In b blocks → IsNear left b

-- If `old` is a block of a list, `new` is a block of `left`, which is that list without the entry at `place`.
abbrev pub StaysBlock : ℕ → List Stored → Block → Block → Type 0
StaysBlock place left old new = (held : List Stored) → place < length held → left ≡ remove held place → IsBlock held old
    → IsBlock left new

-- If `old` are blocks of a list, `new` are blocks of `left`, which is that list without the entry at `place`.
abbrev pub StayBlocks : ℕ → List Stored → List Block → List Block → Type 0
StayBlocks place left old new = (held : List Stored) → place < length held → left ≡ remove held place
    → AreBlocks held old → AreBlocks left new

-- The settled entries, and how many entries there is capacity for, these included.
pub record SettledList : Type 0 where
  pub items : List Stored
  pub room : ℕ
