use Rattle.lab_capture.proofs.Arrivals.{all_held}
use Rattle.lab_capture.proofs.laws.arrivals_are_held.Goals as goal

pub returns : goal.returns
returns c = all_held
