use Rattle.std.proofs.Common.{◌∙◌, sym}
use Rattle.lab_trace.specs.SameValues.{values_of}
use Rattle.lab_trace.proofs.SameValuesLaws.{same_values}
use Rattle.lab_trace.proofs.noting.note_values.Goals as goal

pub returns-in-Some-clause-kept : goal.returns-in-Some-clause-kept
returns-in-Some-clause-kept c =
    same_values c.in-Some.last (values_of c.args.known.now c.args.figures) (sym c.are.ensures ∙ c.if-are.true)
