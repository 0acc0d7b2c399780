use Rattle.std.proofs.Common.{◌≡◌, not, sym, ap, subst, ◌∙◌, Ok, Err, arith}
use Rattle.std.specs.Prelude.{is_some}
use Rattle.std.specs.List.{insert}
use Rattle.repo_catalog.specs.Entries.{EntryList, publication_of, lists, with_entry, IsCatalogue}
use Rattle.repo_catalog.specs.EntryTotals.{totals_of}
use Rattle.repo_catalog.proofs.EntryLemmas.{found_place, entry_at, no_entry_between, with_entry_at, with_entry_between}
use Rattle.repo_catalog.proofs.EntryLemmas.{with_entry_rises}
use Rattle.repo_catalog.proofs.IndexLemmas.{index_added}
use Rattle.repo_catalog.proofs.SumLemmas.{sums_with}
use Rattle.repo_catalog.proofs.catalogue.Catalogue.add_reserved.Goals as goal

pub returns-in_default-clause-added : goal.returns-in_default-clause-added
returns-in_default-clause-added c =
    let es = c.self.inside.entries.items in
    let k = publication_of c.args.entry in
    let place =
    found_place es k (Ok c.in_default.field-0) c.in_default.ensures.ordered c.in_default.ensures.bound
    c.in_default.ensures.position in
    let there = ap is_some (entry_at k es c.in_default.field-0 c.args.entry c.self.invariant.kept.in_order place) in
    sym (ap (λ (l : EntryList). not (lists k l.entries)) (sym c.self.view_is) ∙ ap not there)

pub returns-in_default-clause-entries : goal.returns-in_default-clause-entries
returns-in_default-clause-entries c =
    let es = c.self.inside.entries.items in
    let place =
    found_place es (publication_of c.args.entry) (Ok c.in_default.field-0) c.in_default.ensures.ordered
    c.in_default.ensures.bound c.in_default.ensures.position in
    sym (with_entry_at c.args.entry es c.in_default.field-0 c.self.invariant.kept.in_order place)
    ∙ ap (λ (l : EntryList). with_entry c.args.entry l.entries) c.self.view_is

pub invariant_of-self-2 : goal.invariant_of-self-2
invariant_of-self-2 c =
    let es = c.self.inside.entries.items in
    let place =
    found_place es (publication_of c.args.entry) (Err c.in-Err.place) c.in-Err.ensures.ordered c.in-Err.ensures.bound
    c.in-Err.ensures.position in
    let inserted : c.insert.new.self.items ≡ insert es c.in-Err.place c.args.entry =
    c.insert.ensures.items in
    let entries = inserted ∙ sym (with_entry_between c.args.entry es c.in-Err.place place) in
    let spare = ap (λ (l : EntryList). l.spare) c.self.view_is in
    let missing = no_entry_between (publication_of c.args.entry) es c.in-Err.place place in
    record {
      kept = record {
        in_order = subst IsCatalogue (sym entries) (with_entry_rises c.args.entry es c.self.invariant.kept.in_order);
        none_aside = c.self.invariant.kept.none_aside;
        indexed =
            rw (entries, c.wait.ensures.keys, c.wait.ensures.waiting)
            (index_added c.args.entry es c.self.inside.names.keys c.self.inside.names.waiting
            c.self.invariant.kept.in_order (ap is_some missing) c.self.invariant.kept.indexed);
        summed =
            c.add.ensures es c.self.invariant.kept.summed
            ∙ sums_with c.args.entry es missing
            ∙ ap totals_of (sym entries);
      };
      room = record {
        room =
            omega (
              arith,
              c.insert.ensures.len,
              c.insert.ensures.capacity,
              c.self.invariant.room.room,
              c.requires,
              spare,
            );
        room_aside =
            omega (arith, c.insert.ensures.len, c.self.invariant.room.room_aside, c.requires, spare);
        room_for_names = omega (arith, c.wait.ensures.room, c.self.invariant.room.room_for_names, c.requires, spare);
      };
    }

pub returns-clause-added : goal.returns-clause-added
returns-clause-added c =
    let es = c.self.inside.entries.items in
    let k = publication_of c.args.entry in
    let place =
    found_place es k (Err c.in-Err.place) c.in-Err.ensures.ordered c.in-Err.ensures.bound c.in-Err.ensures.position in
    let missing = ap is_some (no_entry_between k es c.in-Err.place place) in
    sym (ap (λ (l : EntryList). not (lists k l.entries)) (sym c.self.view_is) ∙ ap not missing)

pub returns-clause-entries : goal.returns-clause-entries
returns-clause-entries c =
    let es = c.self.inside.entries.items in
    let place =
    found_place es (publication_of c.args.entry) (Err c.in-Err.place) c.in-Err.ensures.ordered c.in-Err.ensures.bound
    c.in-Err.ensures.position in
    let inserted : c.insert.new.self.items ≡ insert es c.in-Err.place c.args.entry =
    c.insert.ensures.items in
    inserted
    ∙ sym (with_entry_between c.args.entry es c.in-Err.place place)
    ∙ ap (λ (l : EntryList). with_entry c.args.entry l.entries) c.self.view_is
