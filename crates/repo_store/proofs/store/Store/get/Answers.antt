use Rattle.std.proofs.Common.{ℕ, List, Option, Some, option_map, sym, ap, subst, ◌∙◌}
use Rattle.sorted_lists.specs.SortedList.{value_of}
use Rattle.sorted_lists.proofs.Lookups.{value_of-revalued}
use Rattle.repo_plan.specs.Parts.{part_cmp}
use Rattle.repo_store.specs.StoreList.{StoreList, StoreIsSound}
use Rattle.repo_store.specs.PacketTable.{octets_at}
use Rattle.repo_store.proofs.StoreLemmas.{sound_of}
use Rattle.repo_store.proofs.store.Store.get.Goals as goal

pub returns-clause-found : goal.returns-clause-found
returns-clause-found c =
    let k = c.self.inside.kept in
    ap (λ (o : List ℕ). let r : Option (List ℕ) = Some o in r) c.octets.ensures
    ∙ ap (option_map (octets_at k.slots)) (sym c.in_ok-slot.was ∙ c.slot_of.ensures.found)
    ∙ sym (value_of-revalued part_cmp (octets_at k.slots) k.held c.args.part)
    ∙ ap (λ (s : StoreList). value_of part_cmp s.packets c.args.part) c.self.view_is

pub returns-clause-sound : goal.returns-clause-sound
returns-clause-sound c =
    subst (λ (s : StoreList). StoreIsSound s.packets) c.self.view_is
    (sound_of c.self.inside.kept c.slot_of.ensures.sound)

pub returns-in_err-slot-clause-found : goal.returns-in_err-slot-clause-found
returns-in_err-slot-clause-found c =
    let k = c.self.inside.kept in
    rw c.from_residual.ensures (
    ap (option_map (octets_at k.slots)) (sym c.in_err-slot.was ∙ c.slot_of.ensures.found)
    ∙ sym (value_of-revalued part_cmp (octets_at k.slots) k.held c.args.part)
    ∙ ap (λ (s : StoreList). value_of part_cmp s.packets c.args.part) c.self.view_is)

pub returns-in_err-slot-clause-sound : goal.returns-in_err-slot-clause-sound
returns-in_err-slot-clause-sound c =
    subst (λ (s : StoreList). StoreIsSound s.packets) c.self.view_is
    (sound_of c.self.inside.kept c.slot_of.ensures.sound)
