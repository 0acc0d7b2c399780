use Rattle.repo_watch.proofs.watcher.Watcher.new.Goals as goal

pub invariant_of-result : goal.invariant_of-result
invariant_of-result c = rw c.in_ok-announced.ensures (rw c.entries.ensures.entries c.entries.ensures.ordered)
