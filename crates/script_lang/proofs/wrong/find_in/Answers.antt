use Rattle.std.proofs.Common.{sym, ◌∙◌}
use Rattle.script_lang.proofs.Texts.{is_text}
use Rattle.script_lang.proofs.wrong.find_in.Goals as goal

pub unreachable-requires : goal.unreachable-requires
unreachable-requires c = absurd (c.in_default.ensures.cases.0
    (is_text c.args.body.now (sym c.are_printable.ensures ∙ c.if-not-are_printable.false)))
