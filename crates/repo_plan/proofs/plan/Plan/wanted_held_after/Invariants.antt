use Rattle.std.proofs.Common.{◌≡◌, ◌-◌, ◌++◌, take, length}
use Rattle.repo_plan.specs.Leaps.{some_holds}
use Rattle.repo_plan.proofs.Leaping.{sought}
use Rattle.repo_plan.proofs.plan.Plan.wanted_held_after.Given as goal

abbrev pub invariant-loop-last : goal.invariant-loop-last
invariant-loop-last g l =
    l.parts.items
    ++ take (l.most - length l.parts.items) (sought l.self (some_holds g.H.HasParts.has l.others) l.last)
    ≡ take l.most (sought l.self (some_holds g.H.HasParts.has l.others) l.fn.after)

abbrev pub decreases-loop-last : goal.decreases-loop-last
decreases-loop-last g l = l.most - length l.parts.items
