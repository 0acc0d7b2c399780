use Rattle.lab_text.proofs.LineCuts.{lines_then}
use Rattle.lab_text.proofs.Feeds.{lines_are_one_each}
use Rattle.lab_text.proofs.laws.lines_follow_lines.Goals as goal

pub returns-clause-then : goal.returns-clause-then
returns-clause-then c = lines_then

pub returns-clause-each : goal.returns-clause-each
returns-clause-each c = lines_are_one_each
