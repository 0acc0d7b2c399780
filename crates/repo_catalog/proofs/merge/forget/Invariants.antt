use Rattle.std.proofs.Common.{◌≡◌, ◌≤◌, take}
use Rattle.repo_catalog.specs.Entries.{without_all}
use Rattle.repo_catalog.specs.NameKeys.{IsIndexOf}
use Rattle.repo_catalog.specs.EntryTotals.{totals_of}
use Rattle.repo_catalog.proofs.merge.forget.Given as goal

abbrev pub invariant-loop-publisher : goal.invariant-loop-publisher
invariant-loop-publisher l = record {
  indexed : IsIndexOf (without_all (take l.publisher-index l.publications) l.entries) l.names.keys l.names.waiting;
  summed : l.entry_totals ≡ totals_of (without_all (take l.publisher-index l.publications) l.entries);
  room : l.initial.names.spare ≤ l.names.spare;
}
