use Rattle.std.proofs.Common.{◌≡◌, Some, length}
use Rattle.lab_picture.specs.Words.{number_after}
use Rattle.lab_picture.proofs.words.number_of.Given as goal

abbrev pub invariant-loop-digit : goal.invariant-loop-digit
invariant-loop-digit l = number_after l.number l.rest ≡ number_after (Some 0) l.word

abbrev pub decreases-loop-digit : goal.decreases-loop-digit
decreases-loop-digit l = length l.rest
