use Rattle.std.proofs.Common.{sym, ◌∙◌}
use Rattle.lab_text.proofs.NoteTexts.{space_more, spaces_end, no_space}
use Rattle.lab_text.proofs.note.after_spaces.Goals as goal

pub loop-first-preserved : goal.loop-first-preserved
loop-first-preserved c =
    c.loop-first.invariant ∙ space_more _ _ _ c.in-Some.ensures.cases.0 c.if-first-ne32.false

pub returns-then-first-ne32 : goal.returns-then-first-ne32
returns-then-first-ne32 c =
    sym (c.loop-first.invariant ∙ spaces_end _ _ _ c.in-Some.ensures.cases.0 c.if-first-ne32.true)

pub returns : goal.returns
returns c = sym (c.loop-first.invariant ∙ no_space _ c.in_default.ensures.cases)
