use Rattle.std.proofs.Common.{sym, ◌∙◌}
use Rattle.script_lang.proofs.Numerals.{is_parsed}
use Rattle.script_lang.proofs.word.number_in.Goals as goal

pub unreachable-requires : goal.unreachable-requires
unreachable-requires c = absurd (c.in-Err.ensures.value.0
    (is_parsed c.args.word.now (sym c.is_numeral.ensures ∙ c.if-not-is_numeral.false)))
