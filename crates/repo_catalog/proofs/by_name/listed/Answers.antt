use Rattle.std.proofs.Common.{Some, Ok, sym, ap, subst, ◌∙◌}
use Rattle.repo_catalog.specs.declared.entry.Entry.{Entry}
use Rattle.repo_catalog.proofs.EntryLemmas.{IsPlace, found_place, found_ok, entry_at}
use Rattle.repo_catalog.proofs.by_name.listed.Goals as goal

pub unwrap-place-requires : goal.unwrap-place-requires
unwrap-place-requires c =
    let es = c.args.entries.now in
    found_ok c.args.pair es c.place_of.result c.requires.there
    (found_place es c.args.pair c.place_of.result c.requires.in_order c.place_of.ensures.bound
    c.place_of.ensures.position)

pub returns : goal.returns
returns c =
    let es = c.args.entries.now in
    let i = c.unwrap-place.result in
    let x = c.index-entries-place.result in
    let at : IsPlace c.args.pair es (Ok i) =
    subst (IsPlace c.args.pair es) c.unwrap-place.ensures
    (found_place es c.args.pair c.place_of.result c.requires.in_order c.place_of.ensures.bound
    c.place_of.ensures.position) in
    entry_at c.args.pair es i x c.requires.in_order at ∙ ap (λ (e : Entry). Some e) (sym c.index-entries-place.is)
