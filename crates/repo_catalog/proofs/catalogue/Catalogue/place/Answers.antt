use Rattle.std.proofs.Common.{ℕ, subst}
use Rattle.std.specs.List.Sorted.{IsBinarySearchResult}
use Rattle.repo_catalog.specs.Entries.{EntryList, beside}
use Rattle.repo_catalog.proofs.catalogue.Catalogue.place.Goals as goal

pub returns-clause-position : goal.returns-clause-position
returns-clause-position c =
    let r = c.place_of.result in
    let p = c.args.publisher in
    subst (λ (l : EntryList). IsBinarySearchResult (beside (p, c.args.seq)) l.entries r) c.self.view_is
    (subst (λ (s : ℕ). IsBinarySearchResult (beside (p, s)) c.self.inside.entries.items r) c.from.ensures
    (rw c.as_slice.ensures at c.place_of.ensures.position))
