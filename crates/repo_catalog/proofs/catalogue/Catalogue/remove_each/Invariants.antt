use Rattle.std.proofs.Common.{◌≡◌, take}
use Rattle.repo_catalog.specs.Entries.{without_all}
use Rattle.repo_catalog.proofs.catalogue.Catalogue.remove_each.Given as goal

abbrev pub invariant-loop-publisher : goal.invariant-loop-publisher
invariant-loop-publisher l =
    l.self ≡ record l.initial.self {
      entries = without_all (take l.publisher-index l.publications) l.initial.self.entries;
    }
