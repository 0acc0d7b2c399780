use Rattle.std.proofs.Common.{take}
use Rattle.sorted_lists.specs.Members.{In}
use Rattle.repo_store.specs.PacketTable.{Stored}
use Rattle.repo_store.proofs.IndexLemmas.{PartLe}
use Rattle.repo_store.proofs.blocks.least_of.Given as goal

abbrev pub invariant-loop-next : goal.invariant-loop-next
invariant-loop-next l = In l.least l.held × ((h : Stored) → In h (take l.next-index l.held) → PartLe l.least.0 h.0)
