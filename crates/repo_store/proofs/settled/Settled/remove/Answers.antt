use Rattle.std.proofs.Common.{◌<◌, List, length, sym, subst, ◌∙◌}
use Rattle.repo_store.specs.PacketTable.{Stored}
use Rattle.repo_store.specs.Blocks.{AreBlocks, SettledList}
use Rattle.repo_store.proofs.BlockLemmas.{near_blocks}
use Rattle.repo_store.proofs.settled.Settled.remove.Goals as goal

pub shift_blocks-requires : goal.shift_blocks-requires
shift_blocks-requires c =
    let s = c.self.inside in
    near_blocks s.held.items c.deref.result.now c.args.place s.blocks.items
    (subst (λ (l : SettledList). c.args.place < length l.items) (sym c.self.view_is) c.requires)
    (c.deref.ensures.value ∙ c.remove.ensures.items) c.self.invariant.blocks

pub invariant_of-self : goal.invariant_of-self
invariant_of-self c =
    let blocks =
    c.shift_blocks.ensures c.self.inside.held.items
    (subst (λ (l : SettledList). c.args.place < length l.items) (sym c.self.view_is) c.requires)
    (c.deref.ensures.value ∙ c.remove.ensures.items) c.self.invariant.blocks in
    record {
      blocks =
          subst (λ (xs : List Stored). AreBlocks xs c.shift_blocks.new.blocks.items) c.deref.ensures.value blocks;
    }
