use Rattle.script_story.proofs.HeadlineMembers.{reach_sound}
use Rattle.script_story.proofs.HeadlineSettles.{report_changes_nothing}
use Rattle.script_story.proofs.headline.lines_reach_sound_groups.Goals as goal

pub returns-clause-sound : goal.returns-clause-sound
returns-clause-sound c = reach_sound

pub returns-clause-unchanged : goal.returns-clause-unchanged
returns-clause-unchanged c = report_changes_nothing
