use Rattle.std.proofs.Common.{List, not, sym, ap, ◌∙◌}
use Rattle.sorted_lists.specs.SortedList.{keys, contains}
use Rattle.sorted_lists.proofs.Lookups.{keys-revalued}
use Rattle.repo_plan.specs.declared.part.Part.{Part}
use Rattle.repo_plan.specs.Parts.{part_cmp}
use Rattle.repo_store.specs.StoreList.{StoreList}
use Rattle.repo_store.specs.PacketTable.{octets_at}
use Rattle.repo_store.proofs.StoreLemmas.{put_there}
use Rattle.repo_store.proofs.store.Store.put.Goals as goal

pub returns-then-has-clause-fresh : goal.returns-then-has-clause-fresh
returns-then-has-clause-fresh c =
    sym
    (ap not (ap (λ (s : StoreList). contains part_cmp (keys s.packets) c.args.part) (sym c.self.view_is)
    ∙ ap (λ (ts : List Part). contains part_cmp ts c.args.part)
    (keys-revalued part_cmp (octets_at c.self.inside.kept.slots) c.self.inside.kept.held)
    ∙ sym c.has.ensures
    ∙ c.if-has.true))

pub returns-then-has-clause-ok : goal.returns-then-has-clause-ok
returns-then-has-clause-ok c =
    ap (λ (p : _). let s : StoreList = record { packets = p; spare = c.args.self.now.spare } in s)
    (put_there c.args.part c.args.octets.now c.args.self.now.packets
    (ap (λ (s : StoreList). contains part_cmp (keys s.packets) c.args.part) (sym c.self.view_is)
    ∙ ap (λ (ts : List Part). contains part_cmp ts c.args.part)
    (keys-revalued part_cmp (octets_at c.self.inside.kept.slots) c.self.inside.kept.held)
    ∙ sym c.has.ensures
    ∙ c.if-has.true))
