use Rattle.live_top.proofs.PrintedLines.{printed_whole}
use Rattle.live_top.proofs.laws.journals_are_printed_whole.Goals as goal

pub returns : goal.returns
returns c = printed_whole
