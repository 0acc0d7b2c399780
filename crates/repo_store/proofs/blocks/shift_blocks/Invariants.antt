use Rattle.repo_store.proofs.BlockLemmas.{Shifting}
use Rattle.repo_store.proofs.blocks.shift_blocks.Given as goal

abbrev pub invariant-loop-block : goal.invariant-loop-block
invariant-loop-block l = Shifting l.place l.held l.fn.blocks.items l.block-items l.block-index
