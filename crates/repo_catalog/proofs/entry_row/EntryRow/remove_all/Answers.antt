use Rattle.std.proofs.Common.{not, ap, ◌∙◌, rules}
use Rattle.std.proofs.lemmas.Fn.{filter_same}
use Rattle.sorted_lists.specs.SortedList.{contains}
use Rattle.repo_plan.specs.Parts.{pair_cmp}
use Rattle.repo_catalog.specs.declared.entry.Entry.{Entry}
use Rattle.repo_catalog.specs.Entries.{publication_of, without_all}
use Rattle.repo_catalog.specs.EntryRows.{Row}
use Rattle.repo_catalog.proofs.entry_row.EntryRow.remove_all.Goals as goal

pub returns-clause-items : goal.returns-clause-items
returns-clause-items c =
    let pairs = c.args.publications.now in
    let rises = c.requires in
    rw c.close.ensures.gone
    (filter_same _ (λ (e : Entry). not (contains pair_cmp pairs (publication_of e))) _
    (λ x b f' called. search (rules, rises)) c.close.new.all.items c.retain.new.self.items c.retain.ensures.filtered
    ∙ ap (without_all pairs) c.close.ensures.items
    ∙ ap (λ (r : Row). without_all pairs r.items) c.self.view_is)
