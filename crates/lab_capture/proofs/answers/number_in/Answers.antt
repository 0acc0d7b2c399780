use Rattle.std.proofs.Common.{Err, List, ℕ, ◌∙◌, subst, sym}
use Rattle.std.specs.Str.Parse.{ParsesUnsigned}
use Rattle.lab_capture.proofs.Reports.{digits_are_text, too_large}
use Rattle.lab_capture.proofs.answers.number_in.Goals as goal

pub unreachable-requires : goal.unreachable-requires
unreachable-requires c = absurd (c.in_default.ensures.cases.0
    (digits_are_text c.args.word.now (sym c.is_decimal.ensures ∙ c.if-not-is_decimal.false)))

pub returns-in_default-parse-2-clause-number : goal.returns-in_default-parse-2-clause-number
returns-in_default-parse-2-clause-number c =
    too_large c.args.most c.ranges.most.fits c.args.word.now c.in_default-parse.field-0
    (sym c.is_decimal.ensures ∙ c.if-not-is_decimal.false)
    (subst (λ (text : List ℕ). ParsesUnsigned 64 10 text (Err c.in_default-parse.field-0)) c.in-Ok.ensures.cases.0
    c.in_default-parse.ensures.value.0)
