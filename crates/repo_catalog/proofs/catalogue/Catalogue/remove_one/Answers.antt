use Rattle.std.proofs.Common.{◌≡◌, ◌&&◌, List, Some, not, sym, ap, subst, ◌∙◌, get_or, Ok, Err, arith}
use Rattle.std.specs.Prelude.{is_some}
use Rattle.std.specs.List.{remove}
use Rattle.std.specs.Ordering.{eq_by_cmp}
use Rattle.sorted_lists.specs.SortedList.{contains}
use Rattle.repo_plan.specs.Parts.{Pair}
use Rattle.repo_catalog.specs.declared.entry.Entry.{Entry}
use Rattle.repo_catalog.specs.Entries.{EntryList, publication_of, entry_of, without, IsCatalogue}
use Rattle.repo_catalog.specs.NameKeys.{Key, key_cmp, key_of, is_key, IsIndexOf}
use Rattle.repo_catalog.specs.EntryTotals.{totals_of}
use Rattle.repo_catalog.proofs.EntryLemmas.{found_place, entry_at, no_entry_between, without_at, without_between}
use Rattle.repo_catalog.proofs.EntryLemmas.{without_rises}
use Rattle.repo_catalog.proofs.IndexLemmas.{is_key-without, index_less}
use Rattle.repo_catalog.proofs.ManyLemmas.{entry_is_of}
use Rattle.repo_catalog.proofs.SumLemmas.{sums_without}
use Rattle.repo_catalog.proofs.catalogue.Catalogue.remove_one.Goals as goal

pub returns-in_default-clause-removed : goal.returns-in_default-clause-removed
returns-in_default-clause-removed c =
    let k : Pair = (c.args.publisher, c.args.seq) in
    let place =
    found_place c.args.self.now.entries k (Err c.in_default.field-0) c.in_default.ensures.ordered
    c.in_default.ensures.bound c.in_default.ensures.position in
    sym (ap is_some (no_entry_between k c.args.self.now.entries c.in_default.field-0 place))

pub returns-in_default-clause-left : goal.returns-in_default-clause-left
returns-in_default-clause-left c =
    let k : Pair = (c.args.publisher, c.args.seq) in
    let place =
    found_place c.args.self.now.entries k (Err c.in_default.field-0) c.in_default.ensures.ordered
    c.in_default.ensures.bound c.in_default.ensures.position in
    ap (λ (es : List Entry). record c.args.self.now { entries = es })
    (sym (without_between k c.args.self.now.entries c.in_default.field-0 place))

pub invariant_of-self : goal.invariant_of-self
invariant_of-self c =
    let k : Pair = (c.args.publisher, c.args.seq) in
    let es = c.args.self.now.entries in
    let x = c.index-as_slice-place.result in
    let place =
    found_place es k (Ok c.in-Ok.place) c.in-Ok.ensures.ordered c.in-Ok.ensures.bound c.in-Ok.ensures.position in
    let left : c.remove-2.new.self.items ≡ without k es =
    c.remove-2.ensures.items
    ∙ ap (λ (l : EntryList). remove l.entries c.in-Ok.place) c.self.view_is
    ∙ sym (without_at k es c.in-Ok.place c.in-Ok.ensures.ordered place) in
    let there : entry_of k es ≡ Some x =
    entry_at k es c.in-Ok.place x c.in-Ok.ensures.ordered place
    ∙ ap (λ (e : Entry). Some e)
    (sym (c.index-as_slice-place.is
    ∙ ap (λ (xs : List Entry). get_or xs c.in-Ok.place x) c.as_slice.ensures
    ∙ ap (λ (l : EntryList). get_or l.entries c.in-Ok.place x) c.self.view_is)) in
    let of : k ≡ publication_of x = entry_is_of k es x there in
    record {
      kept = record {
        in_order = subst IsCatalogue (sym left) (without_rises k es c.in-Ok.ensures.ordered);
        none_aside = c.self.invariant.kept.none_aside;
        indexed =
            rw (left, c.remove.ensures.waiting)
            (index_less es (without k es) c.self.inside.names.keys c.remove.new.self.keys c.self.inside.names.waiting
            (λ q. not (eq_by_cmp key_cmp q (key_of x)))
            (λ q. is_key-without x es q (ap (λ (p : Pair). entry_of p es) (sym of) ∙ there)
            ∙ ap (λ (p : Pair). is_key (without p es) q) (sym of))
            (λ q. c.remove.ensures.keys q
            ∙ ap (λ (key : Key). not (eq_by_cmp key_cmp q key) && contains key_cmp c.self.inside.names.keys q)
            c.key_of.ensures)
            (subst (λ (l : EntryList). IsIndexOf l.entries c.self.inside.names.keys c.self.inside.names.waiting)
            c.self.view_is c.self.invariant.kept.indexed));
        summed =
            c.subtract.ensures (without k es)
            (c.self.invariant.kept.summed
            ∙ ap (λ (l : EntryList). totals_of l.entries) c.self.view_is
            ∙ sums_without k x es c.in-Ok.ensures.ordered there)
            ∙ ap totals_of (sym left);
      };
      room = record {
        room = omega (arith, c.remove-2.ensures.len, c.remove-2.ensures.capacity, c.self.invariant.room.room);
        room_aside = omega (arith, c.remove-2.ensures.len, c.self.invariant.room.room_aside);
        room_for_names = omega (arith, c.remove.ensures.room, c.self.invariant.room.room_for_names);
      };
    }

pub returns-clause-removed : goal.returns-clause-removed
returns-clause-removed c =
    let k : Pair = (c.args.publisher, c.args.seq) in
    let es = c.args.self.now.entries in
    let x = c.index-as_slice-place.result in
    let place =
    found_place es k (Ok c.in-Ok.place) c.in-Ok.ensures.ordered c.in-Ok.ensures.bound c.in-Ok.ensures.position in
    sym (ap is_some (entry_at k es c.in-Ok.place x c.in-Ok.ensures.ordered place))

pub returns-clause-left : goal.returns-clause-left
returns-clause-left c =
    let k : Pair = (c.args.publisher, c.args.seq) in
    let es = c.args.self.now.entries in
    let place =
    found_place es k (Ok c.in-Ok.place) c.in-Ok.ensures.ordered c.in-Ok.ensures.bound c.in-Ok.ensures.position in
    let left =
    c.remove-2.ensures.items
    ∙ ap (λ (l : EntryList). remove l.entries c.in-Ok.place) c.self.view_is
    ∙ sym (without_at k es c.in-Ok.place c.in-Ok.ensures.ordered place) in
    let spare = ap (λ (l : EntryList). l.spare) c.self.view_is in
    λ i. record { entries = left i; spare = spare i }
