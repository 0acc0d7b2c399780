use Rattle.std.proofs.Common.{◌-◌}
use Rattle.sorted_lists.specs.Runs.{has_number}
use Rattle.repo_plan.specs.Counts.{how_many}
use Rattle.repo_plan.proofs.Counts.{IsCount}
use Rattle.repo_plan.proofs.plan.counts.count_in.Given as goal

abbrev pub invariant-loop-passed : goal.invariant-loop-passed
invariant-loop-passed g l =
    IsCount (how_many (λ n. has_number g.P.Ord.cmp l.set (l.thing, n)) l.first (l.end - l.first)) l.count
    (how_many (λ n. has_number g.P.Ord.cmp l.set (l.thing, n)) l.passed (l.end - l.passed)) l.passed

abbrev pub decreases-loop-passed : goal.decreases-loop-passed
decreases-loop-passed g l = l.end - l.passed
