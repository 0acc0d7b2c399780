use Rattle.script_story.proofs.HeadlineListings.{informed_members_join}
use Rattle.script_story.proofs.headline.informed_members_join_without_a_settle.Goals as goal

pub returns : goal.returns
returns c = informed_members_join
