use Rattle.std.proofs.Common.{length}
use Rattle.lab_text.specs.Cutting.{HasOpenEnd}
use Rattle.lab_text.proofs.cutting.up_to_last_feed.Given as goal

abbrev pub invariant-loop-before : goal.invariant-loop-before
invariant-loop-before l = HasOpenEnd l.before l.octets

abbrev pub decreases-loop-before : goal.decreases-loop-before
decreases-loop-before l = length l.before
