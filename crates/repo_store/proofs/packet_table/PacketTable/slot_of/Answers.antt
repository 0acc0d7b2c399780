use Rattle.std.proofs.Common.{ap, subst, ◌∙◌}
use Rattle.sorted_lists.specs.SortedList.{value_of}
use Rattle.repo_plan.specs.Parts.{part_cmp}
use Rattle.repo_store.specs.PacketTable.{PacketTableState}
use Rattle.repo_store.specs.Slots.{HeldIsSound}
use Rattle.repo_store.proofs.SlotLemmas.{sound_seen}
use Rattle.repo_store.proofs.packet_table.PacketTable.slot_of.Goals as goal

pub returns-clause-found : goal.returns-clause-found
returns-clause-found c =
    c.get.ensures ∙ ap (λ (k : PacketTableState). value_of part_cmp k.held c.args.part) c.self.view_is

pub returns-clause-sound : goal.returns-clause-sound
returns-clause-sound c = subst HeldIsSound c.self.view_is (sound_seen c.self.inside c.self.invariant)
