use Rattle.std.proofs.Common.{◌≡◌, length}
use Rattle.lab_text.specs.Differences.{after_common_prefix}
use Rattle.lab_text.specs.LineTexts.{line_texts}
use Rattle.lab_text.proofs.difference.after_common_prefix.Given as goal

abbrev pub invariant-loop-left_others : goal.invariant-loop-left_others
invariant-loop-left_others l = after_common_prefix (line_texts l.expected) (line_texts l.actual)
    ≡ after_common_prefix (line_texts l.left) (line_texts l.right)

abbrev pub decreases-loop-left_others : goal.decreases-loop-left_others
decreases-loop-left_others l = length l.left
