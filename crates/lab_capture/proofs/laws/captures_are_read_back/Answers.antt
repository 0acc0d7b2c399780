use Rattle.lab_capture.proofs.Captured.{same_frames}
use Rattle.lab_capture.proofs.laws.captures_are_read_back.Goals as goal

pub returns : goal.returns
returns c = same_frames
