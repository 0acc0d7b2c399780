use Rattle.script_story.proofs.WorkerLaws.{workers_make_no_difference}
use Rattle.script_story.proofs.headline.workers_make_no_difference.Goals as goal

pub returns : goal.returns
returns c = workers_make_no_difference
