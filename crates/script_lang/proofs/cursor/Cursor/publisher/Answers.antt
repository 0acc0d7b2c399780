use Rattle.script_lang.specs.Kinds.{PUBLISHER}
use Rattle.script_lang.specs.Forms.{publisher_value}
use Rattle.script_lang.proofs.Reading.{reads}
use Rattle.script_lang.proofs.cursor.Cursor.publisher.Goals as goal

pub returns : goal.returns
returns c = reads publisher_value PUBLISHER c.in_ok-word.word.now c.args.self.now
    c.next.new.self c.kept.new.self _ _ c.kept.result c.in_ok-word.ensures.ok c.publisher_in.ensures c.kept.ensures
