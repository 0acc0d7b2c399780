use Rattle.std.proofs.Common.{◌+◌, ◌-◌}
use Rattle.repo_plan.specs.Counts.{how_many}
use Rattle.repo_plan.specs.Parts.{part_of, last_part}
use Rattle.repo_plan.specs.Plan.{may_be_asked_for}
use Rattle.repo_plan.proofs.Counts.{IsCount}
use Rattle.repo_plan.proofs.plan.Plan.listed_in.Given as goal

abbrev pub invariant-loop-passed : goal.invariant-loop-passed
invariant-loop-passed l =
    IsCount (how_many (λ x. may_be_asked_for l.self (part_of l.publication x)) 0 (last_part l.shape + 1)) l.count
    (how_many (λ x. may_be_asked_for l.self (part_of l.publication x)) l.passed (last_part l.shape + 1 - l.passed))
    l.passed

abbrev pub decreases-loop-passed : goal.decreases-loop-passed
decreases-loop-passed l = l.last_number + 1 - l.passed
