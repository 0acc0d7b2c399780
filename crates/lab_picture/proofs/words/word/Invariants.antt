use Rattle.std.proofs.Common.{◌≡◌}
use Rattle.lab_picture.specs.Words.{word_at}
use Rattle.lab_picture.proofs.words.word.Given as goal

abbrev pub invariant-loop-left : goal.invariant-loop-left
invariant-loop-left l = word_at l.left l.rest ≡ word_at l.number l.octets

abbrev pub decreases-loop-left : goal.decreases-loop-left
decreases-loop-left l = l.left
