use Rattle.std.proofs.Common.{take}
use Rattle.repo_plan.specs.Leaps.{some_holds, IsLeastFrom}
use Rattle.repo_plan.proofs.plan.leaps.least_of_some.Given as goal

abbrev pub invariant-loop-other : goal.invariant-loop-other
invariant-loop-other g l = IsLeastFrom (some_holds g.H.HasParts.has (take l.other-index l.others)) l.part l.least
