use Rattle.std.proofs.Common.{List, sym, ap, subst, ◌∙◌, arith}
use Rattle.repo_catalog.specs.declared.entry.Entry.{Entry}
use Rattle.repo_catalog.specs.Entries.{EntryList, without_all, IsCatalogue}
use Rattle.repo_catalog.specs.NameKeys.{IsIndexOf}
use Rattle.repo_catalog.specs.EntryTotals.{totals_of}
use Rattle.repo_catalog.proofs.ManyLemmas.{without_all_rises}
use Rattle.repo_catalog.proofs.catalogue.Catalogue.remove_in_one_pass.Goals as goal

pub invariant_of-self : goal.invariant_of-self
invariant_of-self c =
    let pairs = c.args.publications.now in
    let es = c.self.inside.entries.items in
    let left = c.remove_all.ensures.items in
    record {
      kept = record {
        in_order = subst IsCatalogue (sym left) (without_all_rises pairs es c.self.invariant.kept.in_order);
        none_aside = c.self.invariant.kept.none_aside;
        indexed =
            subst (λ (xs : List Entry). IsIndexOf xs c.forget.new.names.keys c.forget.new.names.waiting)
            (ap (λ (xs : List Entry). without_all pairs xs) c.as_slice.ensures ∙ sym left) c.forget.ensures.indexed;
        summed =
            c.forget.ensures.summed
            ∙ ap (λ (xs : List Entry). totals_of (without_all pairs xs)) c.as_slice.ensures
            ∙ ap totals_of (sym left);
      };
      room = record {
        room = omega (arith, c.remove_all.ensures.len, c.remove_all.ensures.capacity, c.self.invariant.room.room);
        room_aside = omega (arith, c.remove_all.ensures.len, c.self.invariant.room.room_aside);
        room_for_names = omega (arith, c.forget.ensures.room, c.self.invariant.room.room_for_names);
      };
    }

pub returns : goal.returns
returns c =
    let pairs = c.args.publications.now in
    let entries = c.remove_all.ensures.items ∙ ap (λ (l : EntryList). without_all pairs l.entries) c.self.view_is in
    let spare = ap (λ (l : EntryList). l.spare) c.self.view_is in
    λ i. record { entries = entries i; spare = spare i }
