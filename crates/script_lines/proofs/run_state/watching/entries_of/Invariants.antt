use Rattle.std.proofs.Common.{◌≡◌, map, take, Some}
use Rattle.repo_catalog.specs.Entries.{entry_of}
use Rattle.script_lines.proofs.run_state.watching.entries_of.Given as goal

abbrev pub invariant-loop-publisher : goal.invariant-loop-publisher
invariant-loop-publisher l =
    map Some l.entries.items ≡ map (λ pair. entry_of pair l.catalogue.entries) (take l.publisher-index l.pairs)
