use Rattle.lab_lines.proofs.Transcripts.{same_checks}
use Rattle.lab_lines.proofs.laws.a_transcript_is_the_same.Goals as goal

pub returns : goal.returns
returns c = same_checks
