use Rattle.lab_text.proofs.TranscriptLaws.{lines_of_both, script_of_both, notes_say_report, report_is_joined}
use Rattle.lab_text.proofs.NoteTexts.{is_a_report_note}
use Rattle.lab_text.proofs.laws.transcripts_are_read_back.Goals as goal

pub returns-clause-lines : goal.returns-clause-lines
returns-clause-lines c = lines_of_both

pub returns-clause-script : goal.returns-clause-script
returns-clause-script c = script_of_both

pub returns-clause-notes : goal.returns-clause-notes
returns-clause-notes c = is_a_report_note

pub returns-clause-texts : goal.returns-clause-texts
returns-clause-texts c = notes_say_report

pub returns-clause-report : goal.returns-clause-report
returns-clause-report c = report_is_joined
