use Rattle.std.proofs.Common.{length, is_some, sym, ap, ◌∙◌}
use Rattle.std.proofs.lemmas.List.Sums.{length-filter}
use Rattle.repo_store.specs.StoreList.{different_octets}
use Rattle.repo_store.specs.PacketTable.{PacketTableState, entries_of}
use Rattle.repo_store.proofs.KeptLemmas.{kept_is}
use Rattle.repo_store.proofs.packet_table.PacketTable.packets.Goals as goal

pub returns : goal.returns
returns c =
    let k = c.self.inside in
    c.len.ensures
    ∙ sym (length-filter is_some k.packets.slots)
    ∙ kept_is k.packets.slots k.parts.entries c.self.invariant.slots
    ∙ ap (λ (s : PacketTableState). length (different_octets (entries_of s.slots s.held))) c.self.view_is
