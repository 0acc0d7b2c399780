use Rattle.lab_lines.proofs.Transcripts.{own_transcripts}
use Rattle.lab_lines.proofs.laws.a_transcript_is_its_own_transcript.Goals as goal

pub returns : goal.returns
returns c = own_transcripts
