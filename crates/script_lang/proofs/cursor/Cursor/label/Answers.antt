use Rattle.std.specs.String.{string_bytes}
use Rattle.script_lang.specs.Kinds.{LABEL, Text}
use Rattle.script_lang.proofs.Reading.{reads}
use Rattle.script_lang.proofs.cursor.Cursor.label.Goals as goal

pub returns : goal.returns
returns c = reads (λ value. Text (string_bytes value)) LABEL c.in_ok-word.word.now c.args.self.now
    c.next.new.self c.kept.new.self _ _ c.kept.result c.in_ok-word.ensures.ok c.label_in.ensures c.kept.ensures
