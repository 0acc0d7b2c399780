use Rattle.std.proofs.Common.{◌≡◌, ◌+◌, ◌++◌, ◌∷◌, [], List, length, reverse, sym, ap, ◌∙◌, arith}
use Rattle.std.proofs.lemmas.List.{reverse-append}
use Rattle.repo_catalog.specs.declared.entry.Entry.{Entry}
use Rattle.repo_catalog.specs.Entries.{with_entries}
use Rattle.repo_catalog.proofs.MergeLemmas.{no_items}
use Rattle.repo_catalog.proofs.catalogue.Catalogue.add_each.Goals as goal

pub loop-entry-preserved : goal.loop-entry-preserved
loop-entry-preserved c =
    let before = c.loop-entry.invariant in
    let x = c.in-Some.entry in
    let fs = c.pop.new.self.items in
    let popped : c.loop-entry.fresh.items ≡ fs ++ x ∷ [] = c.in-Some.ensures.items in
    let turned : reverse c.loop-entry.fresh.items ≡ x ∷ reverse fs =
    ap reverse popped ∙ reverse-append fs (x ∷ []) in
    let len : length c.loop-entry.fresh.items ≡ length fs + 1 =
    omega (arith, c.in-Some.ensures.len, c.loop-entry.fresh.ok, c.pop.new.self.ok) in
    record {
      entries =
          ap (with_entries (reverse fs)) c.add_reserved.ensures.entries
          ∙ ap (λ (rs : List Entry). with_entries rs c.loop-entry.self.entries) (sym turned)
          ∙ before.entries;
      spare = omega (arith, before.spare, before.room, c.add_reserved.ensures.spare, len);
      room = omega (arith, before.room, c.add_reserved.ensures.spare, len);
      capacity = omega (arith, before.capacity, c.pop.ensures.capacity);
    }

pub returns-clause-entries : goal.returns-clause-entries
returns-clause-entries c =
    let empty : c.loop-entry.fresh.items ≡ [] =
    no_items c.loop-entry.fresh.items (omega (arith, c.in_default.ensures.cases.0, c.loop-entry.fresh.ok)) in
    ap (λ (rs : List Entry). with_entries (reverse rs) c.loop-entry.self.entries) (sym empty)
    ∙ c.loop-entry.invariant.entries
