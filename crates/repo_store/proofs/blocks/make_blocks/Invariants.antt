use Rattle.std.proofs.Common.{◌≤◌, ◌-◌, length}
use Rattle.repo_store.specs.Blocks.{AreBlocks}
use Rattle.repo_store.proofs.blocks.make_blocks.Given as goal

abbrev pub invariant-loop-blocks : goal.invariant-loop-blocks
invariant-loop-blocks l = record {
  within : l.start ≤ length l.held;
  blocks : AreBlocks l.held l.blocks.items;
}

abbrev pub decreases-loop-blocks : goal.decreases-loop-blocks
decreases-loop-blocks l = length l.held - l.start
