use Rattle.script_lang.proofs.Cuts.{stripped}
use Rattle.script_lang.proofs.word.after.Goals as goal

pub returns : goal.returns
returns c = stripped c.args.prefix.now c.args.text.now c.strip_prefix.result c.strip_prefix.ensures.cases
