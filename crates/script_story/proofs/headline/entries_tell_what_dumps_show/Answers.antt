use Rattle.script_story.proofs.HeadlineChecks.{entries_tell_of_dumped}
use Rattle.script_story.proofs.headline.entries_tell_what_dumps_show.Goals as goal

pub returns : goal.returns
returns c = entries_tell_of_dumped
