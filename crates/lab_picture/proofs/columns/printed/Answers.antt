use Rattle.std.proofs.Common.{sym, ◌∙◌}
use Rattle.script_lang.proofs.Texts.{is_text}
use Rattle.lab_picture.proofs.columns.printed.Goals as goal

pub unreachable-requires : goal.unreachable-requires
unreachable-requires c = absurd (c.in_default.ensures.cases.0
    (is_text c.args.word.now (sym c.are_printable.ensures ∙ c.if-not-are_printable.false)))
