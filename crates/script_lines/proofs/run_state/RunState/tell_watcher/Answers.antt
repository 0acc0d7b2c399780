use Rattle.std.proofs.Common.{◌∙◌, List, length, ap, sym, not, subst}
use Rattle.std.specs.String.{string_bytes}
use Rattle.repo_watch.specs.Watching.{Watching, watch_of}
use Rattle.script_report.specs.declared.refusal.Refusal.TheVariants as refusal
use Rattle.script_story.specs.Evaluation.{begun_world, told_at, watchers_of}
use Rattle.script_lines.specs.RunStates.{IsLineError, IsStopWhere, state_of_run, phase_keys}
use Rattle.std.specs.Prelude.{is_some}
use Rattle.repo_member.specs.Groups.{GroupKeys}
use Rattle.script_lang.proofs.Stops.{stops_so}
use Rattle.script_lines.proofs.RunStateLemmas.{as_many}
use Rattle.script_lines.proofs.WatchLines.{announced_stops}
use Rattle.script_lines.proofs.run_state.RunState.tell_watcher.Goals as goal

pub tell_news-requires-clause-labels : goal.tell_news-requires-clause-labels
tell_news-requires-clause-labels g c =
    let many = as_many string_bytes c.args.self.now.labels.items (phase_keys c.args.self.now.phase)
    c.args.self.now.words c.requires.at.declared.named in
    let keys = c.in_ok-world.ensures.keys ∙ ap phase_keys c.replace-phase.ensures.value in
    ap (λ xs. length xs) c.deref.ensures.value ∙ many ∙ ap (λ (k : GroupKeys). length k.members.names) (sym keys)

pub returns-in_err-tell_news-clause-stopped : goal.returns-in_err-tell_news-clause-stopped
returns-in_err-tell_news-clause-stopped g c =
    stops_so c.from_residual-in_err-tell_news.result
    (IsLineError (told_at (begun_world (g.D.Draws.draw c.args.draws.now) (state_of_run c.args.self.now))
    (state_of_run c.args.self.now) c.args.self.now.words c.args.m c.args.number))
    c.in_err-tell_news.field-0.0 c.from_residual-in_err-tell_news.ensures.1
    (announced_stops (begun_world (g.D.Draws.draw c.args.draws.now) (state_of_run c.args.self.now))
    (state_of_run c.args.self.now) c.args.self.now.words c.args.m c.args.number c.in_err-tell_news.field-0.0
    (subst (λ (ws : List (List Watching)). IsStopWhere
    (not (is_some (watch_of c.args.number (watchers_of ws c.args.m)))) refusal.NoSuchWatch
    c.in_err-tell_news.field-0.0) c.deref_mut.ensures.value c.in_err-tell_news.ensures.stopped))
