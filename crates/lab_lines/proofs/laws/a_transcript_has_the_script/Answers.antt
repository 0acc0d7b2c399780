use Rattle.lab_lines.proofs.Scripts.{script_is_there}
use Rattle.lab_lines.proofs.laws.a_transcript_has_the_script.Goals as goal

pub returns : goal.returns
returns c = script_is_there
