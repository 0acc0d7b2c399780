use Rattle.std.proofs.Common.{◌≡◌, length}
use Rattle.repo_io.specs.Lines.{lines}
use Rattle.lab_lint.specs.Linting.{lint_from, nothing_passed, with_text}
use Rattle.lab_lint.proofs.linting.lint_lines.Given as goal

abbrev pub invariant-loop-line : goal.invariant-loop-line
invariant-loop-line l = with_text l.out.items (lint_from l.linter (lines l.rest))
    ≡ with_text l.fn.out.items (lint_from nothing_passed (lines l.octets))

abbrev pub decreases-loop-line : goal.decreases-loop-line
decreases-loop-line l = length l.rest
