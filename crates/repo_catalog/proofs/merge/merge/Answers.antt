use Rattle.std.proofs.Common.{◌≡◌, ◌++◌, ◌∷◌, ℕ, List, [], Option, Some, None, Ok, Err, reverse, take}
use Rattle.std.proofs.Common.{length, get_or}
use Rattle.std.proofs.Common.{sym, ap, subst, ◌∙◌, refl, arith}
use Rattle.std.specs.Prelude.{is_some}
use Rattle.std.specs.List.Sorted.{IsSearchInRange, IsBinarySearchResult}
use Rattle.std.specs.Option.{option_or}
use Rattle.std.proofs.lemmas.List.{append-nil, append_assoc, reverse-append}
use Rattle.std.proofs.lemmas.List.Folds.{find-append}
use Rattle.repo_catalog.specs.declared.entry.Entry.{Entry}
use Rattle.repo_catalog.specs.Entries.{publication_of, is_of, beside, entry_of, with_entry, with_entries, IsCatalogue}
use Rattle.repo_catalog.specs.NameKeys.{IsIndexOf}
use Rattle.repo_catalog.specs.EntryTotals.{totals_of}
use Rattle.repo_catalog.proofs.EntryLemmas.{found_place, entry_at, no_entry_between, with_entry_between}
use Rattle.repo_catalog.proofs.EntryLemmas.{with_entry_rises}
use Rattle.repo_catalog.proofs.EntryLemmas.{IsPlace}
use Rattle.repo_catalog.proofs.IndexLemmas.{index_added}
use Rattle.repo_catalog.proofs.LawLemmas.{entries_tell_all}
use Rattle.repo_catalog.proofs.ManyLemmas.{adds_all, with_entries_rises, or_none}
use Rattle.repo_catalog.proofs.MergeLemmas.{IsAhead, rest_rises, prefix_rises, rises_dropped, rises_joined, none_ahead}
use Rattle.repo_catalog.proofs.MergeLemmas.{none_after, with_entry-append, inserted_between, passed_by, taken_in}
use Rattle.repo_catalog.proofs.MergeLemmas.{no_items}
use Rattle.repo_catalog.proofs.SumLemmas.{sums_with}
use Rattle.repo_catalog.proofs.merge.merge.Goals as goal

pub loop-entry-init : goal.loop-entry-init
loop-entry-init c =
    let es = c.args.entries.now.items in
    let fs = c.args.fresh.now.items in
    let none : reverse c.args.aside.now.items ≡ [] = ap reverse c.requires.kept.none_aside in
    let all : es ++ reverse c.args.aside.now.items ≡ es = ap (λ (a : List Entry). es ++ a) none ∙ append-nil es in
    let all_fresh : fs ++ reverse c.args.aside.now.items ≡ fs = ap (λ (a : List Entry). fs ++ a) none ∙ append-nil fs in
    let empty : length c.args.aside.now.items ≡ 0 = ap length c.requires.kept.none_aside in
    record {
      in_order = subst IsCatalogue (sym all) c.requires.kept.in_order;
      ahead = subst IsCatalogue (sym all_fresh) c.requires.fresh_in_order;
      all = λ k.
          ap (λ (xs : List Entry). option_or (entry_of k xs) (entry_of k fs)) all
          ∙ sym (adds_all fs es k c.requires.kept.in_order);
      indexed =
          subst (λ (xs : List Entry). IsIndexOf xs c.args.names.now.keys c.args.names.now.waiting) (sym all)
          c.requires.kept.indexed;
      summed = c.requires.kept.summed ∙ ap totals_of (sym all);
      len = omega (arith, empty, c.args.aside.now.ok);
      room = omega arith;
      room_aside = omega arith;
      room_fresh = omega arith;
      names = omega arith;
    }

pub unwrap-requires : goal.unwrap-requires
unwrap-requires c =
    c.push.ensures.succeeds
    (omega (
      arith,
      c.set_aside.ensures.len,
      c.set_aside.ensures.room_aside,
      c.in-Some.ensures.len,
      c.loop-entry.invariant.len,
      c.loop-entry.invariant.room_aside,
      c.requires.room.room_aside,
    ))

pub loop-entry-preserved-in-Err : goal.loop-entry-preserved-in-Err
loop-entry-preserved-in-Err c =
    let before = c.loop-entry.invariant in
    let x = c.in-Some.entry in
    let i = c.in-Err.place in
    let fs = c.pop.new.self.items in
    let es = c.loop-entry.entries.items in
    let aside = reverse c.loop-entry.aside.items in
    let kept = c.set_aside.new.entries.items in
    let following = reverse c.set_aside.new.aside.items in
    let popped : c.loop-entry.fresh.items ≡ fs ++ x ∷ [] = c.in-Some.ensures.items in
    let ahead : IsCatalogue (fs ++ x ∷ aside) =
    subst IsCatalogue (ap (λ (xs : List Entry). xs ++ aside) popped ∙ append_assoc fs (x ∷ []) aside) before.ahead in
    let x_ahead : IsAhead x aside = (rest_rises fs (x ∷ aside) ahead).0 in
    let bound : IsSearchInRange (Err i) (length es) =
    subst (λ (ys : List Entry). IsSearchInRange (Err i) (length ys)) c.deref.ensures.value c.in-Err.ensures.bound in
    let position : IsBinarySearchResult (beside (publication_of x)) es (Err i) =
    subst (λ (ys : List Entry). IsBinarySearchResult (beside (publication_of x)) ys (Err i)) c.deref.ensures.value
    (subst (λ (s : ℕ). IsBinarySearchResult (beside (x.publisher, s)) c.deref.result.now (Err i)) c.from.ensures
    c.in-Err.ensures.position) in
    let at : IsPlace (publication_of x) es (Err i) =
    found_place es (publication_of x) (Err i) (prefix_rises es aside before.in_order) bound position in
    let moved : take i es ++ following ≡ es ++ aside =
    ap (λ (xs : List Entry). xs ++ following) (sym c.set_aside.ensures.kept) ∙ c.set_aside.ensures.all in
    let split : with_entry x (es ++ aside) ≡ kept ++ x ∷ following =
    with_entry-append x es aside x_ahead
    ∙ ap (λ (xs : List Entry). xs ++ aside) (with_entry_between x es i at)
    ∙ inserted_between es i x aside following (omega (arith, bound)) moved
    ∙ ap (λ (xs : List Entry). xs ++ x ∷ following) (sym c.set_aside.ensures.kept) in
    let pushed : c.push.new.self.items ≡ c.set_aside.new.aside.items ++ x ∷ [] =
    c.push.ensures.items ∙ rw c.unwrap.ensures refl in
    let reversed : reverse c.push.new.self.items ≡ x ∷ following =
    ap reverse pushed ∙ reverse-append c.set_aside.new.aside.items (x ∷ []) in
    let whole : kept ++ reverse c.push.new.self.items ≡ with_entry x (es ++ aside) =
    ap (λ (ys : List Entry). kept ++ ys) reversed ∙ sym split in
    let rises : IsCatalogue (with_entry x (es ++ aside)) = with_entry_rises x (es ++ aside) before.in_order in
    let missing : entry_of (publication_of x) (es ++ aside) ≡ None =
    find-append (is_of (publication_of x)) es aside
    ∙ ap (λ (o : Option Entry). option_or o (entry_of (publication_of x) aside))
    (no_entry_between (publication_of x) es i at)
    ∙ none_after x aside x_ahead in
    record {
      in_order = subst IsCatalogue (sym whole) rises;
      ahead =
          subst (λ (ys : List Entry). IsCatalogue (fs ++ ys)) (sym reversed)
          (rises_joined fs aside following x ahead (rest_rises kept (x ∷ following) (subst IsCatalogue split rises)));
      all = λ k.
          ap (λ (xs : List Entry). option_or (entry_of k xs) (entry_of k fs)) whole
          ∙ taken_in (es ++ aside) fs x k before.in_order (none_ahead fs aside x ahead)
          ∙ ap (λ (xs : List Entry). option_or (entry_of k (es ++ aside)) (entry_of k xs)) (sym popped)
          ∙ before.all k;
      indexed =
          rw (whole, c.wait.ensures.keys, c.wait.ensures.waiting)
          (index_added x (es ++ aside) c.loop-entry.names.keys c.loop-entry.names.waiting before.in_order
          (ap is_some missing) before.indexed);
      summed = c.add.ensures (es ++ aside) before.summed ∙ sums_with x (es ++ aside) missing ∙ ap totals_of (sym whole);
      len =
          omega (
            arith,
            before.len,
            rw c.unwrap.ensures at c.push.ensures.len,
            c.set_aside.ensures.len,
            c.in-Some.ensures.len,
          );
      room = omega (arith, before.room, c.set_aside.ensures.room);
      room_aside = omega (arith, before.room_aside, c.set_aside.ensures.room_aside, c.push.ensures.capacity);
      room_fresh = omega (arith, before.room_fresh, c.pop.ensures.capacity);
      names = omega (arith, before.names, c.wait.ensures.room, c.in-Some.ensures.len);
    }

pub loop-entry-preserved : goal.loop-entry-preserved
loop-entry-preserved c =
    let before = c.loop-entry.invariant in
    let x = c.in-Some.entry in
    let i = c.in_default-place_of.field-0 in
    let fs = c.pop.new.self.items in
    let es = c.loop-entry.entries.items in
    let aside = reverse c.loop-entry.aside.items in
    let popped : c.loop-entry.fresh.items ≡ fs ++ x ∷ [] = c.in-Some.ensures.items in
    let ahead : IsCatalogue (fs ++ x ∷ aside) =
    subst IsCatalogue (ap (λ (xs : List Entry). xs ++ aside) popped ∙ append_assoc fs (x ∷ []) aside) before.ahead in
    let bound : IsSearchInRange (Ok i) (length es) =
    subst (λ (ys : List Entry). IsSearchInRange (Ok i) (length ys)) c.deref.ensures.value
    c.in_default-place_of.ensures.bound in
    let position : IsBinarySearchResult (beside (publication_of x)) es (Ok i) =
    subst (λ (ys : List Entry). IsBinarySearchResult (beside (publication_of x)) ys (Ok i)) c.deref.ensures.value
    (subst (λ (s : ℕ). IsBinarySearchResult (beside (x.publisher, s)) c.deref.result.now (Ok i)) c.from.ensures
    c.in_default-place_of.ensures.position) in
    let in_order : IsCatalogue es = prefix_rises es aside before.in_order in
    let at : IsPlace (publication_of x) es (Ok i) = found_place es (publication_of x) (Ok i) in_order bound position in
    let there : entry_of (publication_of x) (es ++ aside)
    ≡ option_or (Some (get_or es i x)) (entry_of (publication_of x) aside) =
    find-append (is_of (publication_of x)) es aside
    ∙ ap (λ (o : Option Entry). option_or o (entry_of (publication_of x) aside))
    (entry_at (publication_of x) es i x in_order at) in
    record {
      in_order = before.in_order;
      ahead = rises_dropped fs aside x ahead;
      all = λ k.
          sym (passed_by (es ++ aside) fs x k (ap is_some there))
          ∙ ap (λ (xs : List Entry). option_or (entry_of k (es ++ aside)) (entry_of k xs)) (sym popped)
          ∙ before.all k;
      indexed = before.indexed;
      summed = before.summed;
      len = omega (arith, before.len, c.in-Some.ensures.len);
      room = before.room;
      room_aside = before.room_aside;
      room_fresh = omega (arith, before.room_fresh, c.pop.ensures.capacity);
      names = omega (arith, before.names, c.in-Some.ensures.len);
    }

pub returns-clause-entries : goal.returns-clause-entries
returns-clause-entries c =
    let before = c.loop-entry.invariant in
    let now = c.loop-entry.entries.items ++ reverse c.loop-entry.aside.items in
    let es = c.args.entries.now.items in
    let fs = c.args.fresh.now.items in
    let empty : c.loop-entry.fresh.items ≡ [] =
    no_items c.loop-entry.fresh.items (omega (arith, c.in_default.ensures.cases.0, c.loop-entry.fresh.ok)) in
    c.put_back.ensures.all
    ∙ entries_tell_all now (with_entries fs es) before.in_order (with_entries_rises fs es c.requires.kept.in_order)
    (λ k. or_none (entry_of k now)
    ∙ ap (λ (xs : List Entry). option_or (entry_of k now) (entry_of k xs)) (sym empty)
    ∙ before.all k)

pub returns-clause-moved : goal.returns-clause-moved
returns-clause-moved c =
    no_items c.pop.new.self.items (omega (
      arith,
      c.in_default.ensures.cases.0,
      c.pop.ensures.len,
      c.pop.new.self.ok,
      c.loop-entry.fresh.ok,
    ))
