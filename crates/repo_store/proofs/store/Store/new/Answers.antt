use Rattle.std.proofs.Common.{[], sym, subst}
use Rattle.repo_store.specs.PacketTable.{PacketTableState}
use Rattle.repo_store.specs.NameLayers.{HasRoom, IsIndexOf}
use Rattle.repo_store.proofs.NameLayerLemmas.{index_none}
use Rattle.repo_store.proofs.store.Store.new.Goals as goal

pub invariant_of-result : goal.invariant_of-result
invariant_of-result c = record {
  names =
      subst (λ (k : PacketTableState). IsIndexOf k.slots k.held c.new-2.result) (sym c.new.ensures)
      (index_none [] c.new-2.result c.new-2.ensures.settled c.new-2.ensures.recent);
  room = subst (λ (k : PacketTableState). HasRoom c.new-2.result k.spare) (sym c.new.ensures) c.new-2.ensures.room;
}
