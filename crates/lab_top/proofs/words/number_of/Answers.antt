use Rattle.std.proofs.Common.{◌∙◌, sym}
use Rattle.lab_top.proofs.Numbers.{read}
use Rattle.lab_top.proofs.words.number_of.Goals as goal

pub returns-then-is_decimal : goal.returns-then-is_decimal
returns-then-is_decimal c =
    let decimal = sym c.is_decimal.ensures ∙ c.if-is_decimal.true in
    c.ok.ensures.value ∙ read c.args.word.now c.parse.result decimal c.parse.ensures.value.0
