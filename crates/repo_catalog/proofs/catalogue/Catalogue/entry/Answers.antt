use Rattle.std.proofs.Common.{List, sym, ap, ◌∙◌, get_or, Some, Ok, Err}
use Rattle.repo_plan.specs.Parts.{Pair}
use Rattle.repo_catalog.specs.declared.entry.Entry.{Entry}
use Rattle.repo_catalog.specs.Entries.{EntryList}
use Rattle.repo_catalog.proofs.EntryLemmas.{found_place, entry_at, no_entry_between}
use Rattle.repo_catalog.proofs.catalogue.Catalogue.entry.Goals as goal

pub returns-in_default : goal.returns-in_default
returns-in_default c =
    let k : Pair = (c.args.publisher, c.args.seq) in
    let place =
    found_place c.args.self.now.entries k (Err c.in_default.field-0) c.in_default.ensures.ordered
    c.in_default.ensures.bound c.in_default.ensures.position in
    sym (no_entry_between k c.args.self.now.entries c.in_default.field-0 place)

pub returns : goal.returns
returns c =
    let k : Pair = (c.args.publisher, c.args.seq) in
    let d = c.index-as_slice-place.result in
    let place =
    found_place c.args.self.now.entries k (Ok c.in-Ok.place) c.in-Ok.ensures.ordered c.in-Ok.ensures.bound
    c.in-Ok.ensures.position in
    let there =
    c.index-as_slice-place.is
    ∙ ap (λ (es : List Entry). get_or es c.in-Ok.place d) c.as_slice.ensures
    ∙ ap (λ (l : EntryList). get_or l.entries c.in-Ok.place d) c.self.view_is in
    ap (λ (e : Entry). Some e) there
    ∙ sym (entry_at k c.args.self.now.entries c.in-Ok.place d c.in-Ok.ensures.ordered place)
