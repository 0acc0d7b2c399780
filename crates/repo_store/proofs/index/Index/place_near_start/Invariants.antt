use Rattle.std.proofs.Common.{◌-◌, length}
use Rattle.repo_store.proofs.index.Index.place_near_start.Given as goal

abbrev pub decreases-loop-next : goal.decreases-loop-next
decreases-loop-next l = length l.self.held.now - l.end
