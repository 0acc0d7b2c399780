use Rattle.bench_world.specs.Worlds.{world_of}
use Rattle.script_story.specs.Evaluation.{begun_world, mirror_heard}
use Rattle.script_lines.specs.RunStates.{IsLineError, state_of_run}
use Rattle.script_lang.proofs.Stops.{stops_so}
use Rattle.script_lines.proofs.MirrorLines.{heard_stops}
use Rattle.script_lines.proofs.run_state.RunState.hear_at.Goals as goal

pub returns-in_err-hear-clause-stopped : goal.returns-in_err-hear-clause-stopped
returns-in_err-hear-clause-stopped g c =
    stops_so c.from_residual-in_err-hear.result
    (IsLineError (mirror_heard (begun_world (g.D.Draws.draw c.args.draws.now) (state_of_run c.args.self.now))
    (state_of_run c.args.self.now) c.args.self.now.words c.args.k c.args.i c.args.label.now))
    c.in_err-hear.field-0.0 c.from_residual-in_err-hear.ensures.1
    (heard_stops (g.D.Draws.draw c.args.draws.now) c.args.self.now.phase c.replace-phase.result
    c.args.self.now.watchers.items c.args.self.now.words (world_of c.in_ok-world.world) c.args.k c.args.i
    c.args.label.now c.in_err-hear.field-0.0 c.replace-phase.ensures.value c.in_ok-world.ensures.world
    c.in_err-hear.ensures.stopped)
