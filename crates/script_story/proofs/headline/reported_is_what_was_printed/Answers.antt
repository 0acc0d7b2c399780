use Rattle.script_story.proofs.HeadlineReported.{reported_is_printed}
use Rattle.script_story.proofs.headline.reported_is_what_was_printed.Goals as goal

pub returns : goal.returns
returns c = reported_is_printed
