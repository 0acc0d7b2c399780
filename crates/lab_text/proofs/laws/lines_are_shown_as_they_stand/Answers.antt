use Rattle.lab_text.proofs.NoteTexts.{shown_of_whole, shown_again}
use Rattle.lab_text.proofs.laws.lines_are_shown_as_they_stand.Goals as goal

pub returns-clause-whole : goal.returns-clause-whole
returns-clause-whole c = shown_of_whole

pub returns-clause-again : goal.returns-clause-again
returns-clause-again c = shown_again
