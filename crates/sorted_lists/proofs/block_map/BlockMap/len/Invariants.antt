use Rattle.std.proofs.Common.{◌≡◌, length, take}
use Rattle.sorted_lists.specs.BlockMap.{joined}
use Rattle.sorted_lists.proofs.block_map.BlockMap.len.Given as goal

abbrev pub invariant-loop-block : goal.invariant-loop-block
invariant-loop-block g l = l.n ≡ length (joined (take l.block-index l.self.blocks.items))
