use Rattle.std.proofs.Common.{◌≡◌, take}
use Rattle.std.specs.List.{filter}
use Rattle.repo_catalog.specs.NameKeys.{has_name}
use Rattle.repo_catalog.proofs.by_name.all_waiting.Given as goal

abbrev pub invariant-loop-publication : goal.invariant-loop-publication
invariant-loop-publication l =
    l.pairs.items ≡ filter (has_name l.name l.entries) (take l.publication-index l.waiting)
