use Rattle.std.proofs.Common.{◌≡◌, Some, Ok, Err, sym, ap, ◌∙◌, rules}
use Rattle.repo_plan.specs.Parts.{Pair}
use Rattle.repo_catalog.specs.declared.entry.Entry.{Entry}
use Rattle.repo_catalog.specs.Entries.{entry_has_name}
use Rattle.repo_catalog.specs.NameKeys.{is_named}
use Rattle.repo_catalog.proofs.EntryLemmas.{found_place, entry_at, no_entry_between}
use Rattle.repo_catalog.proofs.by_name.has_name.Goals as goal

pub returns-in-Ok : goal.returns-in-Ok
returns-in-Ok c =
    let name = c.args.name.now in
    let es = c.args.entries.now in
    let k : Pair = (c.args.publication.0, c.from.result) in
    let x = c.index-entries-place.result in
    let named : c.is_eq.result ≡ entry_has_name name x = search rules in
    let there =
    entry_at k es c.in-Ok.place x c.requires
    (found_place es k (Ok c.in-Ok.place) c.requires c.in-Ok.ensures.bound c.in-Ok.ensures.position)
    ∙ ap (λ (e : Entry). Some e) (sym c.index-entries-place.is) in
    rw (← c.from.ensures) (named ∙ sym (ap (is_named name) there))

pub returns-in-Err : goal.returns-in-Err
returns-in-Err c =
    let es = c.args.entries.now in
    let k : Pair = (c.args.publication.0, c.from.result) in
    let none =
    no_entry_between k es c.in-Err.field-0
    (found_place es k (Err c.in-Err.field-0) c.requires c.in-Err.ensures.bound c.in-Err.ensures.position) in
    rw (← c.from.ensures) (sym (ap (is_named c.args.name.now) none))
