use Rattle.std.proofs.Common.{is_some, ap, ◌∙◌}
use Rattle.sorted_lists.proofs.Sets.{value_key}
use Rattle.repo_plan.specs.Parts.{part_cmp}
use Rattle.repo_store.proofs.packet_table.PacketTable.has.Goals as goal

pub returns : goal.returns
returns c =
    c.is_some.ensures
    ∙ ap is_some c.slot_of.ensures.found
    ∙ value_key part_cmp c.args.self.now.held c.args.part
