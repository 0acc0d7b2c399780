use Rattle.std.proofs.Common.{length}
use Rattle.repo_store.proofs.DropLemmas.{Dropping}
use Rattle.repo_store.proofs.packet_table.PacketTable.drop_pair.Given as goal

abbrev pub invariant-loop-part : goal.invariant-loop-part
invariant-loop-part l = Dropping l.pair l.initial.self l.self

abbrev pub decreases-loop-part : goal.decreases-loop-part
decreases-loop-part l = length l.self.held
