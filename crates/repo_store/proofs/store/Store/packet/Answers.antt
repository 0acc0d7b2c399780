use Rattle.std.proofs.Common.{option_map, sym, ap, ◌∙◌}
use Rattle.sorted_lists.specs.SortedList.{value_of}
use Rattle.sorted_lists.proofs.Lookups.{there_value, value_of-revalued}
use Rattle.repo_plan.specs.Parts.{part_cmp}
use Rattle.repo_plan.proofs.Orders.{exact_parts}
use Rattle.repo_store.specs.StoreList.{StoreList}
use Rattle.repo_store.specs.PacketTable.{at, octets_at}
use Rattle.repo_store.proofs.SlotLemmas.{octets_of}
use Rattle.repo_store.proofs.store.Store.packet.Goals as goal

pub returns : goal.returns
returns c =
    let k = c.self.inside.kept in
    let found = sym c.in_ok-slot.was ∙ c.slot_of.ensures.found in
    let held = there_value exact_parts k.held c.args.part c.in_ok-slot.slot (sym found) in
    c.packet.ensures
    ∙ octets_of (at k.slots c.in_ok-slot.slot) (c.slot_of.ensures.sound.kept (c.args.part, c.in_ok-slot.slot) held)
    ∙ ap (option_map (octets_at k.slots)) found
    ∙ sym (value_of-revalued part_cmp (octets_at k.slots) k.held c.args.part)
    ∙ ap (λ (s : StoreList). value_of part_cmp s.packets c.args.part) c.self.view_is

pub returns-in_err-slot : goal.returns-in_err-slot
returns-in_err-slot c =
    let k = c.self.inside.kept in
    rw c.from_residual.ensures (
    ap (option_map (octets_at k.slots)) (sym c.in_err-slot.was ∙ c.slot_of.ensures.found)
    ∙ sym (value_of-revalued part_cmp (octets_at k.slots) k.held c.args.part)
    ∙ ap (λ (s : StoreList). value_of part_cmp s.packets c.args.part) c.self.view_is)
