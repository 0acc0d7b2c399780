use Rattle.std.proofs.Common.{List, sym, subst}
use Rattle.sorted_lists.specs.Members.{In}
use Rattle.repo_store.specs.PacketTable.{Stored}
use Rattle.repo_store.specs.Blocks.{IsBlock}
use Rattle.repo_store.proofs.settled.Settled.first.Goals as goal

pub first-requires-clause-blocks : goal.first-requires-clause-blocks
first-requires-clause-blocks c b i =
    subst (λ (xs : List Stored). IsBlock xs b) (sym c.deref.ensures.value)
    (c.self.invariant.blocks b (subst (In b) c.deref-2.ensures.value i))
