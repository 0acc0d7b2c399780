use Rattle.lab_text.proofs.TranscriptLaws.{expected_is_read}
use Rattle.lab_text.proofs.laws.notes_are_read_back.Goals as goal

pub returns : goal.returns
returns c = expected_is_read
