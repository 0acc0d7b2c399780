use Rattle.std.proofs.Common.{reverse, ap, ◌∙◌, rules}
use Rattle.std.proofs.lemmas.List.Sorted.{IsPermutation-reverse, answers_always}
use Rattle.repo_catalog.specs.Entries.{EntryList, publication_of, with_entries}
use Rattle.repo_catalog.proofs.ManyLemmas.{apart_in_order, sorted_rises, sorted_adds_same}
use Rattle.repo_catalog.proofs.catalogue.Catalogue.add_all_reserved.Goals as goal

pub returns-then-len-le-FEW-clause-entries : goal.returns-then-len-le-FEW-clause-entries
returns-then-len-le-FEW-clause-entries c =
    let fresh = c.args.fresh.now.items in
    c.add_each.ensures.entries
    ∙ sorted_adds_same fresh (reverse fresh) c.args.self.now.entries (IsPermutation-reverse fresh) c.requires.apart
    c.is_in_order.ensures

pub merge-requires-clause-fresh_in_order : goal.merge-requires-clause-fresh_in_order
merge-requires-clause-fresh_in_order c =
    let sorted = c.sort_unstable_by_key.new.self.items in
    sorted_rises sorted
    (c.sort_unstable_by_key.ensures.sorted publication_of (answers_always _ _ _ (λ f a r g called. search rules)))
    (apart_in_order c.args.fresh.now.items sorted c.sort_unstable_by_key.ensures.permutation c.requires.apart)

pub returns-clause-entries : goal.returns-clause-entries
returns-clause-entries c =
    c.merge.ensures.entries
    ∙ sorted_adds_same c.args.fresh.now.items c.sort_unstable_by_key.new.self.items c.self.inside.entries.items
    c.sort_unstable_by_key.ensures.permutation c.requires.apart c.self.invariant.kept.in_order
    ∙ ap (λ (l : EntryList). with_entries c.args.fresh.now.items l.entries) c.self.view_is
