use Rattle.std.proofs.Common.{List, sym, subst}
use Rattle.repo_store.specs.PacketTable.{Stored}
use Rattle.repo_store.specs.Blocks.{AreBlocks}
use Rattle.repo_store.proofs.settled.Settled.reserve.Goals as goal

pub invariant_of-self : goal.invariant_of-self
invariant_of-self c = record {
  blocks =
      subst (λ (xs : List Stored). AreBlocks xs c.self.inside.blocks.items) (sym c.reserve.ensures.items)
      c.self.invariant.blocks;
}

pub invariant_of-self-in_err-reserve-2 : goal.invariant_of-self-in_err-reserve-2
invariant_of-self-in_err-reserve-2 c = record {
  blocks =
      subst (λ (xs : List Stored). AreBlocks xs c.self.inside.blocks.items) (sym c.reserve.ensures.items)
      c.self.invariant.blocks;
}

pub invariant_of-self-2 : goal.invariant_of-self-2
invariant_of-self-2 c = record {
  blocks =
      subst (AreBlocks c.reserve.new.self.items) (sym c.reserve-3.ensures.items)
      (subst (λ (xs : List Stored). AreBlocks xs c.self.inside.blocks.items) (sym c.reserve.ensures.items)
      c.self.invariant.blocks);
}
