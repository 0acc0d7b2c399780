use Rattle.std.proofs.Common.{rules, ◌∙◌}
use Rattle.lab_lint.proofs.Steps.{beyond_so, end_so, line_so, note_so}
use Rattle.lab_lint.proofs.linting.lint_lines.Goals as goal

pub returns-then-not-fits : goal.returns-then-not-fits
returns-then-not-fits c = beyond_so c.loop-line.out.items c.put_beyond.new.out.items c.loop-line.linter
    c.in-Some.line.now c.loop-line.rest.now c.in-Some.others.now c.number.result c.taken.result c.in-Some.ensures.lines
    (search rules) c.in_ok-put_beyond.ensures c.number.ensures.number c.taken.ensures ∙ c.loop-line.invariant

pub loop-line-preserved-then-is_short_note : goal.loop-line-preserved-then-is_short_note
loop-line-preserved-then-is_short_note c = note_so c.loop-line.out.items c.loop-line.linter c.pass_note.new.self
    c.in-Some.line.now c.loop-line.rest.now c.in-Some.others.now c.in-Some.ensures.lines (search rules) (search rules)
    c.pass_note.ensures ∙ c.loop-line.invariant

pub loop-line-preserved : goal.loop-line-preserved
loop-line-preserved c = line_so c.loop-line.out.items c.pass_line.new.out.items c.loop-line.linter
    c.pass_line.new.self c.in-Some.line.now c.loop-line.rest.now c.in-Some.others.now c.in-Some.ensures.lines
    (search rules) (search rules) c.in_ok-pass_line.ensures ∙ c.loop-line.invariant

pub returns : goal.returns
returns c = end_so c.loop-line.out.items c.loop-line.linter c.loop-line.rest.now c.number-2.result c.taken-2.result
    c.in_default.ensures.lines c.number-2.ensures.number c.taken-2.ensures ∙ c.loop-line.invariant
