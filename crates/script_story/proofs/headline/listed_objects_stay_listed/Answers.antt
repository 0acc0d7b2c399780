use Rattle.script_story.proofs.HeadlineListings.{listed_stay}
use Rattle.script_story.proofs.headline.listed_objects_stay_listed.Goals as goal

pub returns : goal.returns
returns c = listed_stay
