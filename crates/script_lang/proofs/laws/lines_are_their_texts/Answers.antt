use Rattle.script_lang.proofs.LineTexts.{line_texts}
use Rattle.script_lang.proofs.laws.lines_are_their_texts.Goals as goal

pub returns : goal.returns
returns c = line_texts
