use Rattle.repo_io.specs.Lines.{lines}
use Rattle.script_story.specs.ScriptRun.{nothing_reached}
use Rattle.script_story.proofs.HeadlineLines.{begins, each_is_taken, held_shapes}
use Rattle.script_story.proofs.headline.runs_are_their_lines.Goals as goal

pub returns-clause-printed : goal.returns-clause-printed
returns-clause-printed c = λ env input. held_shapes env nothing_reached (lines input)

pub returns-clause-each : goal.returns-clause-each
returns-clause-each c = each_is_taken

pub returns-clause-begins : goal.returns-clause-begins
returns-clause-begins c = begins
