use Rattle.script_lang.proofs.WordTexts.{word_texts}
use Rattle.script_lang.proofs.laws.words_are_their_texts.Goals as goal

pub returns : goal.returns
returns c = word_texts
