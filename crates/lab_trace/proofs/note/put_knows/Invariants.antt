use Rattle.std.proofs.Common.{◌≡◌, ◌++◌}
use Rattle.lab_trace.specs.StateNotes.{member_labels}
use Rattle.lab_trace.specs.NoteTexts.{knows_text}
use Rattle.lab_trace.proofs.Vectors.{known_from}
use Rattle.lab_trace.proofs.note.put_knows.Given as goal

abbrev pub invariant-loop-member : goal.invariant-loop-member
invariant-loop-member l =
    l.note.items ++ known_from l.member (member_labels l.words) l.vector
    ≡ l.fn.note.items ++ knows_text (member_labels l.words) l.vector
