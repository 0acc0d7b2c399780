use Rattle.std.proofs.Common.{List, subst}
use Rattle.repo_store.specs.PacketTable.{Stored}
use Rattle.repo_store.specs.Blocks.{AreBlocks}
use Rattle.repo_store.proofs.settled.Settled.retain.Goals as goal

pub invariant_of-self : goal.invariant_of-self
invariant_of-self c = record {
  blocks =
      subst (λ (xs : List Stored). AreBlocks xs c.make_blocks.new.blocks.items) c.deref.ensures.value
      c.make_blocks.ensures;
}
