use Rattle.std.proofs.Common.{rules}
use Rattle.lab_lint.proofs.Passing.{refused_so, taken_so}
use Rattle.lab_lint.proofs.linter.Linter.pass_line.Goals as goal

pub returns-then-branch : goal.returns-then-branch
returns-then-branch c =
    rw (← c.self.view_is) (refused_so _ c.args.line.now c.evaluate.new.words c.in_ok-evaluate.field-0
    c.args.out.now.items c.evaluate.new.out.items _ (search rules) c.in_ok-evaluate.ensures c.if-branch.true
    c.pass_refused-then-branch.ensures)

pub returns-else-branch : goal.returns-else-branch
returns-else-branch c = rw (← c.self.view_is) (taken_so _ c.args.line.now c.evaluate.new.words c.in_ok-evaluate.field-0
    c.args.out.now.items c.evaluate.new.out.items _ (search rules) c.in_ok-evaluate.ensures c.if-branch.false
    c.pass_taken.ensures)
