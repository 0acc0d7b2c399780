use Rattle.script_lang.specs.Kinds.{N, Number}
use Rattle.script_lang.proofs.Reading.{reads}
use Rattle.script_lang.proofs.cursor.Cursor.number.Goals as goal

pub returns : goal.returns
returns c = reads Number (N c.args.least c.args.most) c.in_ok-word.word.now c.args.self.now
    c.next.new.self c.kept.new.self _ _ c.kept.result c.in_ok-word.ensures.ok c.number_in.ensures.gives c.kept.ensures
