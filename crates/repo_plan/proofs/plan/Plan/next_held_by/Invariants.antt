use Rattle.std.proofs.Common.{length}
use Rattle.std.specs.List.{filter}
use Rattle.repo_plan.specs.Plan.{unclaimed, is_after}
use Rattle.repo_plan.specs.Leaps.{some_holds}
use Rattle.repo_plan.proofs.Leaping.{IsPassed}
use Rattle.repo_plan.proofs.plan.Plan.next_held_by.Given as goal

abbrev pub invariant-loop-wanted : goal.invariant-loop-wanted
invariant-loop-wanted g l = IsPassed l.self (some_holds g.H.HasParts.has l.others) l.fn.after l.passed

abbrev pub decreases-loop-wanted : goal.decreases-loop-wanted
decreases-loop-wanted g l = length (filter (is_after l.passed) (unclaimed l.self))
