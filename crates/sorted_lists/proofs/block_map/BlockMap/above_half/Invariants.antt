use Rattle.std.proofs.Common.{◌≡◌, take}
use Rattle.sorted_lists.specs.BlockMap.{above_half}
use Rattle.sorted_lists.proofs.block_map.BlockMap.above_half.Given as goal

abbrev pub invariant-loop-block : goal.invariant-loop-block
invariant-loop-block g l = l.n ≡ above_half (take l.block-index l.self.blocks.items)
