use Rattle.script_lang.specs.Kinds.{URI, Named}
use Rattle.script_lang.proofs.Reading.{reads}
use Rattle.script_lang.proofs.cursor.Cursor.name.Goals as goal

pub returns : goal.returns
returns c = reads (λ value. Named value) (URI c.args.least c.args.most) c.in_ok-word.word.now c.args.self.now
    c.next.new.self c.kept.new.self _ _ c.kept.result c.in_ok-word.ensures.ok c.name_in.ensures c.kept.ensures
