use Rattle.std.proofs.Common.{ap, ◌∙◌}
use Rattle.std.specs.List.{remove}
use Rattle.repo_catalog.specs.EntryRows.{Row}
use Rattle.repo_catalog.proofs.entry_row.EntryRow.remove.Goals as goal

pub returns-then-self-len-clause-items : goal.returns-then-self-len-clause-items
returns-then-self-len-clause-items c =
    rw c.close.ensures.gone
    (c.close.ensures.items ∙ c.take_out.ensures.items
    ∙ ap (λ (r : Row). remove r.items c.args.place) c.self.view_is)

pub returns-else-self-len-clause-items : goal.returns-else-self-len-clause-items
returns-else-self-len-clause-items c =
    c.take_out.ensures.items ∙ ap (λ (r : Row). remove r.items c.args.place) c.self.view_is
