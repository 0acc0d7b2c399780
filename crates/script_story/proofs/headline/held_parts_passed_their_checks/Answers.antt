use Rattle.script_story.proofs.HeadlineChecks.{members_hold_checked}
use Rattle.script_story.proofs.headline.held_parts_passed_their_checks.Goals as goal

pub returns : goal.returns
returns c = members_hold_checked
