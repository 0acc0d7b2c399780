use Rattle.live_script.proofs.Evaluated.{each_line_is_evaluated}
use Rattle.live_script.proofs.laws.lines_are_judged.Goals as goal

pub returns : goal.returns
returns c = each_line_is_evaluated
