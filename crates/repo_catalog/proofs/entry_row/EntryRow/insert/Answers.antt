use Rattle.std.proofs.Common.{◌≡◌, ◌+◌, ap, refl, ◌∙◌}
use Rattle.std.specs.List.{insert}
use Rattle.repo_catalog.specs.EntryRows.{Row}
use Rattle.repo_catalog.proofs.RowLemmas.{drop_insert}
use Rattle.repo_catalog.proofs.entry_row.EntryRow.insert.Goals as goal

pub returns-clause-items : goal.returns-clause-items
returns-clause-items c =
    let row = c.self.inside in
    let i = c.args.place in
    let inserted : c.insert.new.self.items ≡ insert row.all.items (row.gone + i) c.args.entry =
    c.insert.ensures.items ∙ rw c.unwrap.ensures refl in
    rw inserted
    (drop_insert row.gone i (row.gone + i) row.all.items c.args.entry refl c.self.invariant
    ∙ ap (λ (r : Row). insert r.items i c.args.entry) c.self.view_is)
