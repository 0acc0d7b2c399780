use Rattle.std.proofs.Common.{◌≡◌, length}
use Rattle.lab_lint.specs.Columns.{after_word}
use Rattle.lab_lint.proofs.columns.after_word.Given as goal

abbrev pub invariant-loop-rest : goal.invariant-loop-rest
invariant-loop-rest l = after_word l.rest ≡ after_word l.octets

abbrev pub decreases-loop-rest : goal.decreases-loop-rest
decreases-loop-rest l = length l.rest
