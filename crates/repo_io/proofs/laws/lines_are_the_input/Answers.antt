use Rattle.repo_io.proofs.LineLaws.{lines_joined, lines_are_lines, only_lines}
use Rattle.repo_io.proofs.laws.lines_are_the_input.Goals as goal

pub returns-clause-joined : goal.returns-clause-joined
returns-clause-joined c = λ input. lines_joined input

pub returns-clause-each : goal.returns-clause-each
returns-clause-each c = λ input. lines_are_lines input

pub returns-clause-only : goal.returns-clause-only
returns-clause-only c = λ cut are. only_lines cut are
