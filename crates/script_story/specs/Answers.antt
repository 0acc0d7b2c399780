-- The status of a run whose text was written to its end.
use Rattle.script_story.specs.declared.ending.Ending.{Ending}
use Rattle.script_story.specs.declared.ending.Ending.TheVariants as ending
use Rattle.repo_io.specs.declared.status.Status.{Status}
use Rattle.repo_io.specs.declared.status.Status.TheVariants.{Done, Refused, Foreign}

-- The status of a run with this ending.
abbrev pub status_of : Ending → Status
status_of ending.Done = Done
status_of (ending.Refused line number) = Refused line number
status_of (ending.Foreign line) = Foreign line
