use Rattle.std.proofs.Common.{◌≡◌, length}
use Rattle.repo_io.specs.Lines.{lines}
use Rattle.live_top.specs.Outcomes.{outcome_from, outcome_of}
use Rattle.live_top.proofs.input.script_of.Given as goal

abbrev pub invariant-loop-rest : goal.invariant-loop-rest
invariant-loop-rest l = outcome_of l.input ≡ outcome_from l.script (lines l.rest)

abbrev pub decreases-loop-rest : goal.decreases-loop-rest
decreases-loop-rest l = length l.rest
