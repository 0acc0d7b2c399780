use Rattle.std.proofs.Common.{◌≡◌}
use Rattle.lab_lint.specs.Columns.{words_on}
use Rattle.lab_lint.proofs.columns.words_on.Given as goal

abbrev pub invariant-loop-left : goal.invariant-loop-left
invariant-loop-left l = words_on l.left l.rest ≡ words_on l.count l.octets

abbrev pub decreases-loop-left : goal.decreases-loop-left
decreases-loop-left l = l.left
