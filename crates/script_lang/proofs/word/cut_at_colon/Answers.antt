use Rattle.std.proofs.Common.{arith}
use Rattle.script_lang.proofs.Cuts.{cut_once}
use Rattle.script_lang.proofs.word.cut_at_colon.Goals as goal

pub returns : goal.returns
returns c = cut_once 58 c.args.text.now c.split_once.result c.split_once.ensures.cases (omega arith)
