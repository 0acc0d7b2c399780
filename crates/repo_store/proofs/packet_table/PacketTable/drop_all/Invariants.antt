use Rattle.repo_store.proofs.DropLemmas.{DroppingAll}
use Rattle.repo_store.proofs.packet_table.PacketTable.drop_all.Given as goal

abbrev pub invariant-loop-pair : goal.invariant-loop-pair
invariant-loop-pair l = DroppingAll l.pairs l.pair-index l.initial.self l.self
