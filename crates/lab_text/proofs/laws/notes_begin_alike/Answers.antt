use Rattle.lab_text.proofs.NoteTexts.{shown_is_note, note_as_shown}
use Rattle.lab_text.proofs.laws.notes_begin_alike.Goals as goal

pub returns-clause-only : goal.returns-clause-only
returns-clause-only c = shown_is_note

pub returns-clause-just : goal.returns-clause-just
returns-clause-just c = note_as_shown
