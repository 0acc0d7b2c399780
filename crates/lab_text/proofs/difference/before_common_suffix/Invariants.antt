use Rattle.std.proofs.Common.{◌≡◌, length}
use Rattle.lab_text.specs.Differences.{before_common_suffix, difference}
use Rattle.lab_text.specs.LineTexts.{line_texts}
use Rattle.lab_text.proofs.difference.before_common_suffix.Given as goal

abbrev pub invariant-loop-left_others : goal.invariant-loop-left_others
invariant-loop-left_others l = before_common_suffix (difference (line_texts l.expected) (line_texts l.actual))
    ≡ before_common_suffix (difference (line_texts l.left) (line_texts l.right))

abbrev pub decreases-loop-left_others : goal.decreases-loop-left_others
decreases-loop-left_others l = length l.left
