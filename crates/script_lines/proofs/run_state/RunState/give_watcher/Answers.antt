use Rattle.std.proofs.Common.{List, length, subst}
use Rattle.repo_watch.specs.Watching.{Watching}
use Rattle.script_report.specs.declared.refusal.Refusal.TheVariants as refusal
use Rattle.script_story.specs.Evaluation.{begun_world, watched, watchers_of}
use Rattle.script_lines.specs.RunStates.{IsLineError, IsStopWhere, state_of_run}
use Rattle.std.proofs.Common.{nat_le}
use Rattle.script_lang.proofs.Stops.{stops_so}
use Rattle.script_lines.proofs.WatchLines.{watched_stops}
use Rattle.script_lines.proofs.run_state.RunState.give_watcher.Goals as goal

pub returns-in_err-add_watcher-clause-stopped : goal.returns-in_err-add_watcher-clause-stopped
returns-in_err-add_watcher-clause-stopped g c =
    stops_so c.from_residual-in_err-add_watcher.result
    (IsLineError (watched (begun_world (g.D.Draws.draw c.args.draws.now) (state_of_run c.args.self.now))
    (state_of_run c.args.self.now) c.args.self.now.words c.args.m c.args.pattern))
    c.in_err-add_watcher.field-0.0 c.from_residual-in_err-add_watcher.ensures.1
    (watched_stops (begun_world (g.D.Draws.draw c.args.draws.now) (state_of_run c.args.self.now))
    (state_of_run c.args.self.now) c.args.self.now.words c.args.m c.args.pattern c.in_err-add_watcher.field-0.0
    (subst (λ (ws : List (List Watching)). IsStopWhere (nat_le 16 (length (watchers_of ws c.args.m))) refusal.Limit
    c.in_err-add_watcher.field-0.0) c.deref_mut.ensures.value c.in_err-add_watcher.ensures.stopped))
