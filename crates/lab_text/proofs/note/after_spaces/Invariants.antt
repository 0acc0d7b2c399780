use Rattle.std.proofs.Common.{◌≡◌, length}
use Rattle.lab_text.specs.Notes.{after_spaces}
use Rattle.lab_text.proofs.note.after_spaces.Given as goal

abbrev pub invariant-loop-first : goal.invariant-loop-first
invariant-loop-first l = after_spaces l.line ≡ after_spaces l.rest

abbrev pub decreases-loop-first : goal.decreases-loop-first
decreases-loop-first l = length l.rest
