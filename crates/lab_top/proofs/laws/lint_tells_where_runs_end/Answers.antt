use Rattle.lab_top.proofs.LintAgrees.{other_lines_are_carried_out, refused_lines_end_runs, taken_lines_are_clean}
use Rattle.lab_top.proofs.laws.lint_tells_where_runs_end.Goals as goal

pub returns-clause-clean : goal.returns-clause-clean
returns-clause-clean c = taken_lines_are_clean

pub returns-clause-refused : goal.returns-clause-refused
returns-clause-refused c = refused_lines_end_runs

pub returns-clause-others : goal.returns-clause-others
returns-clause-others c = other_lines_are_carried_out
