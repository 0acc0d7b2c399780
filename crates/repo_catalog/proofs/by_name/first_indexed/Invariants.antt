use Rattle.std.proofs.Common.{◌≡◌, length}
use Rattle.std.specs.Prelude.{find}
use Rattle.std.specs.List.{filter}
use Rattle.repo_catalog.proofs.NamedLemmas.{is_named_from, is_from}
use Rattle.repo_catalog.proofs.SoughtLemmas.{indexed_of}
use Rattle.repo_catalog.proofs.by_name.first_indexed.Given as goal

abbrev pub invariant-loop-other : goal.invariant-loop-other
invariant-loop-other l =
    find (is_named_from l.name l.from) (indexed_of l.names.keys l.entries)
    ≡ find (is_named_from l.name l.initial.from) (indexed_of l.names.keys l.entries)

abbrev pub decreases-loop-other : goal.decreases-loop-other
decreases-loop-other l = length (filter (is_from l.from) (indexed_of l.names.keys l.entries))
