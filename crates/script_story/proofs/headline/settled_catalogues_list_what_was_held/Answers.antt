use Rattle.script_story.proofs.HeadlineListings.{settled_list_held, settled_list_left}
use Rattle.script_story.proofs.headline.settled_catalogues_list_what_was_held.Goals as goal

pub returns-clause-held : goal.returns-clause-held
returns-clause-held c = settled_list_held

pub returns-clause-left : goal.returns-clause-left
returns-clause-left c = settled_list_left
