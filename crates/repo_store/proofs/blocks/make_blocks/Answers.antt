use Rattle.std.proofs.Common.{◌≡◌, ◌∷◌, [], ◌++◌, sym, subst, arith}
use Rattle.repo_store.specs.Blocks.{AreBlocks}
use Rattle.repo_store.proofs.BlockLemmas.{blocks_more}
use Rattle.repo_store.proofs.blocks.make_blocks.Goals as goal

pub loop-blocks-preserved : goal.loop-blocks-preserved
loop-blocks-preserved c =
    let held = c.args.held.now in
    let now = c.loop-blocks.blocks.items in
    let items : c.push.new.self.items ≡ now ++ c.of.result ∷ [] = rw c.unwrap.ensures at c.push.ensures.items in
    record {
      within = omega (arith, c.loop-blocks.invariant.within);
      blocks =
          subst (AreBlocks held) (sym items)
          (blocks_more held now c.of.result c.loop-blocks.invariant.blocks c.of.ensures);
    }
