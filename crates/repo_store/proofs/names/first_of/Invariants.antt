use Rattle.std.proofs.Common.{take}
use Rattle.repo_store.specs.Indexes.{IsFirstOf}
use Rattle.repo_store.specs.NameLayers.{is_stored_and_matches}
use Rattle.repo_store.proofs.names.first_of.Given as goal

abbrev pub invariant-loop-next : goal.invariant-loop-next
invariant-loop-next l =
    IsFirstOf (take l.next-index l.held) (is_stored_and_matches l.kept l.asked l.can_be_prefix) l.least
