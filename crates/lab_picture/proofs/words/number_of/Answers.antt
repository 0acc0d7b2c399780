use Rattle.std.proofs.Common.{sym, ◌∙◌}
use Rattle.lab_picture.proofs.WordReads.{all_read, digit_read}
use Rattle.lab_picture.proofs.words.number_of.Goals as goal

pub loop-digit-preserved : goal.loop-digit-preserved
loop-digit-preserved c =
    let e = digit_read c.loop-digit.number c.in-Some.digit.now c.in-Some.others.now c.loop-digit.rest.now
    c.in-Some.ensures.cases.0 in
    cc

pub returns : goal.returns
returns c = sym (all_read c.loop-digit.number c.loop-digit.rest.now c.in_default.ensures.cases) ∙ c.loop-digit.invariant
