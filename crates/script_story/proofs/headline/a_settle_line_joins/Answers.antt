use Rattle.script_story.proofs.HeadlineDeletions.{hides_by_deletion_alone}
use Rattle.script_story.proofs.HeadlineSettles.{settles_join}
use Rattle.script_story.proofs.headline.a_settle_line_joins.Goals as goal

pub returns-clause-joins : goal.returns-clause-joins
returns-clause-joins c = settles_join

pub returns-clause-undeleted : goal.returns-clause-undeleted
returns-clause-undeleted c = hides_by_deletion_alone
