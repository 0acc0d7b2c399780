use Rattle.std.proofs.Common.{◌≡◌, ◌++◌, length}
use Rattle.std.specs.List.{filter}
use Rattle.repo_catalog.specs.NameKeys.{has_name}
use Rattle.repo_catalog.proofs.NamedLemmas.{left}
use Rattle.repo_catalog.proofs.SoughtLemmas.{indexed_of}
use Rattle.repo_catalog.proofs.by_name.all_named.Given as goal

abbrev pub invariant-loop-publisher : goal.invariant-loop-publisher
invariant-loop-publisher l =
    l.pairs.items ++ left l.name (indexed_of l.names.keys l.entries) l.from
    ≡ filter (has_name l.name l.entries) l.names.waiting ++ left l.name (indexed_of l.names.keys l.entries) (0, 0)

abbrev pub decreases-loop-publisher : goal.decreases-loop-publisher
decreases-loop-publisher l = length (left l.name (indexed_of l.names.keys l.entries) l.from)
