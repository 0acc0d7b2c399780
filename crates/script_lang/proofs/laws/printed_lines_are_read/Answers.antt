use Rattle.script_lang.proofs.PrintedLines.{printed_is_read}
use Rattle.script_lang.proofs.laws.printed_lines_are_read.Goals as goal

pub returns : goal.returns
returns c = printed_is_read
